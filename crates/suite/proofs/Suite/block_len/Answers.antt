use mathlib.Core.Path.{ap, subst⁻¹}
use Rattle.suite.specs.declared.Suite.{Suite}
use Rattle.suite.proofs.Laws.{Bounded, bounded}
use Rattle.suite.proofs.Suite.block_len.Goals as goal

pub returns : goal.returns
returns c = (ap (λ (s : Suite). s.block_len) c.of.ensures, (subst⁻¹ Bounded c.of.ensures (bounded _)).block)
