use Rattle.hmac.proofs.Pads.{keyed_is}
use Rattle.hmac.proofs.Keyed.prepare.Goals as goal

pub returns : goal.returns
returns c =
    keyed_is _ c.args.key.now _ _ c.block_len-b.ensures.0 c.initial-inner.ensures c.initial-outer.ensures
    c.put_pad.ensures.0 c.fold.ensures c.put_pad-2.ensures.0 c.fold-2.ensures
