use Rattle.schedule.proofs.Derivations.{derive_of}
use Rattle.schedule.proofs.derive.Goals as goal

pub returns : goal.returns
returns c = derive_of _ _ _ _ c.hash_len-h.ensures.0 c.label_block.ensures
