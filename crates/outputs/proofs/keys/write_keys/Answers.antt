use Rattle.outputs.proofs.Writing.{keys-written}
use Rattle.outputs.proofs.keys.write_keys.Goals as goal

pub returns : goal.returns
returns c =
    let made = c.traffic_keys.ensures in
    keys-written _ _ c.args.out.now made.0 made.1
    c.key_len-k.ensures.0
    c.iv_len-n.ensures.0 c.requires
    c.put-at.ensures c.put.ensures
