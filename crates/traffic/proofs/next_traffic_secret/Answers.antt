use Rattle.schedule.proofs.Derivations.{update_is}
use Rattle.traffic.proofs.next_traffic_secret.Goals as goal

pub returns : goal.returns
returns c = update_is _ _ c.ready-k.ensures c.hash_len-h.ensures.0
    c.label_block.ensures
