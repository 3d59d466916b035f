-- Bytes with the same blocks at their front have the same hash value after these. Once for every variant.
use Prim.Native.Nat.{ℕ, zero, suc, ◌+◌, ◌-◌, ◌*◌, ◌/◌, ◌≤◌}
use mathlib.Core.Path.{◌≡◌, refl, sym, ap, ◌∙◌}
use mathlib.Core.List.{List}
use native.Mathlib.Nat.{suc-mul}
use native.Mathlib.Omega.{arith}
use lib.ListN.{length, take, drop}
use Rattle.std.proofs.lemmas.List.{drop-take, take-take}
use Rattle.fips180.specs.Variant.{Variant}
use Rattle.fips180.specs.Padding.{block_at}
use Rattle.fips180.specs.Rows.{folded}

module _ (v : Variant) where
  front : (s p : List ℕ) (k i : ℕ) → i * v.block ≤ k → folded v s (take k p) i ≡ folded v s p i
  unfolding folded block_at
  front s p k zero h = refl
  front s p k (suc i) h =
      let m : suc i * v.block ≡ i * v.block + v.block = suc-mul i v.block in
      let e : k ≡ i * v.block + (k - i * v.block) = omega arith in
      let b : take v.block (drop (i * v.block) (take k p)) ≡ take v.block (drop (i * v.block) p) =
      ap (λ (j : ℕ). take v.block (drop (i * v.block) (take j p))) e
      ∙ ap (take v.block) (drop-take (i * v.block) (k - i * v.block) p)
      ∙ take-take v.block (k - i * v.block) (drop (i * v.block) p) (omega arith) in
      let r = front s p k i (omega arith) in
      rw (r, b)

  -- where a call was given q in place of p
  pub fold_front : (s p q : List ℕ) {x : List ℕ} → x ≡ folded v s q (length q / v.block) → length q / v.block ≡ length p / v.block
      → take (length p / v.block * v.block) q ≡ take (length p / v.block * v.block) p → x ≡ folded v s p (length p / v.block)
  fold_front s p q ex en et =
      let n = length p / v.block in
      ex ∙ ap (folded v s q) en ∙ sym (front s q (n * v.block) n (omega arith)) ∙ ap (λ (y : List ℕ). folded v s y n) et
      ∙ front s p (n * v.block) n (omega arith)
