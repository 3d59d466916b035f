use Prim.Native.Nat.{ℕ}
use mathlib.Core.Path.{ap, ◌∙◌}
use lib.Dec.{eqb}
use native.Mathlib.Omega.{arith}
use Rattle.std.proofs.lemmas.Nat.{or_comm, xor_comm}
use Rattle.std.proofs.lemmas.Iterator.{YieldsList-from_slice, YieldsList-from_zip}
use Rattle.std.proofs.lemmas.Iterator.Consumers.{fold_from_yields_List}
use Rattle.finished.proofs.Comparing.{other_length, differing, same_fold}
use Rattle.finished.proofs.check.is_same.Goals as goal

pub returns-then-a-b : goal.returns-then-a-b
returns-then-a-b c = other_length _ _ c.if-a-b.true

pub returns : goal.returns
returns c =
    ap (λ (n : ℕ). eqb n 0)
    (fold_from_yields_List _ differing 0 c.fold-bits.result c.fold-bits.ensures.ran
    (YieldsList-from_zip (YieldsList-from_slice c.args.a.now cc) (YieldsList-from_slice c.args.b.now cc)) (λ a x b q k. grind (arith, or_comm, xor_comm)))
    ∙ same_fold 0 c.args.a.now c.args.b.now c.if-a-b.false
