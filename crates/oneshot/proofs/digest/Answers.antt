use Rattle.suite_hash.proofs.Whole.{cut_digest_is}
use Rattle.oneshot.proofs.digest.Goals as goal

pub returns : goal.returns
returns c = cut_digest_is _ c.args.input.now c.min-n.ensures c.start-h.ensures c.absorb.ensures c.finish.ensures
