use mathlib.Core.Path.{ap}
use lib.Dec.{eqb}
use Rattle.suite.specs.declared.Suite.{Suite}
use Rattle.suite.proofs.Suite.is_known.Goals as goal

pub returns : goal.returns
returns c = ap (λ (s : Suite). eqb s.number c.args.number) c.of.ensures
