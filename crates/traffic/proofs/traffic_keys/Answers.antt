use Rattle.schedule.proofs.Derivations.{key_is, iv_is}
use Rattle.traffic.proofs.traffic_keys.Goals as goal

pub returns : goal.returns
returns c =
    let k = c.ready-k.ensures in (
      key_is _ _ k c.key_len.ensures.0
          c.label_block-key.ensures,
      iv_is _ _ k c.iv_len.ensures.0
          c.label_block-iv.ensures,
    )
