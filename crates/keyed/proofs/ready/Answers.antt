use Rattle.keyed.proofs.Prepared.{ready_is}
use Rattle.keyed.proofs.ready.Goals as goal

pub returns : goal.returns
returns c = ready_is _ _ c.hash_len-h.ensures.0 c.prepare.ensures
