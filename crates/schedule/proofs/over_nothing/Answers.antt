use Rattle.schedule.proofs.Derivations.{nothing_of, over_hash}
use Rattle.schedule.proofs.over_nothing.Goals as goal

pub returns : goal.returns
returns c =
    nothing_of _ _ _ c.ready-k.ensures c.empty_digest-nothing.ensures
    (over_hash _ _ _ _ c.hash_len-h.ensures.0 c.derive.ensures)
