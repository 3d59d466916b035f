use mathlib.Core.Path.{ap, subst⁻¹}
use Rattle.suite.specs.declared.Suite.{Suite}
use Rattle.suite.proofs.Laws.{Bounded, bounded}
use Rattle.suite.proofs.Suite.hash_len.Goals as goal

pub returns : goal.returns
returns c = (ap (λ (s : Suite). s.hash_len) c.of.ensures, (subst⁻¹ Bounded c.of.ensures (bounded _)).hash)
