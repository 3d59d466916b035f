use Rattle.keyed.proofs.Prepared.{extract_is}
use Rattle.keyed.proofs.extract_value.Goals as goal

pub returns : goal.returns
returns c =
    let a = c.args in
    extract_is _ a.salt.now a.input.now c.min-n.ensures c.prepare-k.ensures c.mac.ensures
