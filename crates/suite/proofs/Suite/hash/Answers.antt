use mathlib.Core.Path.{ap}
use Rattle.suite.specs.declared.Suite.{Suite}
use Rattle.suite.proofs.Suite.hash.Goals as goal

pub returns : goal.returns
returns c = ap (λ (s : Suite). s.hash) c.of-found.ensures
