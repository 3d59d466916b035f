use Rattle.schedule.proofs.Derivations.{verify_is}
use Rattle.traffic.proofs.verify_data.Goals as goal

pub returns : goal.returns
returns c =
    verify_is _ _ _ c.hash_len-h.ensures.0
    c.ready-k.ensures
    c.label_block-finished_key.ensures c.ready-finished.ensures
    c.mac.ensures
