use Rattle.schedule.specs.Schedule.{within}
use Rattle.schedule.proofs.Derivations.{export_is}
use native.Mathlib.Omega.{arith}
use Rattle.exporter.proofs.tls_exporter.Goals as goal

pub returns : goal.returns
unfolding within
returns c =
    let a = c.args in
    export_is _ _ a.label.now a.context.now a.out.now a.asked
    c.hash_len-h.ensures.0
    (omega arith)
    c.over_nothing-derived.ensures
    c.digest-hashed.ensures c.expand_label.ensures
