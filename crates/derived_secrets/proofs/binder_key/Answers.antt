use native.Mathlib.Omega.{arith}
use Rattle.schedule.proofs.Derivations.{external_is, resumption_is}
use Rattle.schedule.specs.Labels.{label}
use Rattle.derived_secrets.proofs.binder_key.Goals as goal

pub returns-in-1 : goal.returns-in-1
unfolding label
returns-in-1 c = external_is _ _ _ c.in-1.is c.over_nothing.ensures

pub returns-in_default : goal.returns-in_default
unfolding label
returns-in_default c = resumption_is _ c.args.kind _ (λ e. omega arith) c.over_nothing-in_default.ensures
