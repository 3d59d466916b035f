-- Whole blocks, one after the other: the turns of the loop that takes them. Once for every variant.
use Prim.Native.Nat.{ℕ, zero, suc, ◌*◌, ◌/◌, ◌<◌}
use mathlib.Core.Path.{◌≡◌, sym, ap, ◌∙◌}
use mathlib.Core.List.{List}
use native.Mathlib.Nat.{suc-mul, zero-mul, div-eq_of_lt}
use native.Mathlib.Omega.{arith}
use lib.Arith.{digits_div}
use lib.ListN.{length, take}
use lib.Seq.{take_all}
use Rattle.fips180.specs.Variant.{Variant}
use Rattle.fips180.specs.Padding.{block_at, words_of}
use Rattle.fips180.specs.Hash.{compress}
use Rattle.fips180.specs.Rows.{cut, folded}
use Rattle.fips180.proofs.Cut.{cut-compress}

module _ (v : Variant) where
  -- one block more: x is the hash value after i blocks, y the one after the next
  pub fold_turn : (s p : List ℕ) (i : ℕ) {x w y : List ℕ} → x ≡ cut v (folded v s p i) → w ≡ words_of v 16 (block_at v p i)
      → y ≡ compress v x w → y ≡ cut v (folded v s p (suc i))
  unfolding folded
  fold_turn s p i ex ew ey = ey ∙ rw (ew, ex) (sym (cut-compress v _ _))

  -- after a block the words are cut already
  pub fold_done : (s p : List ℕ) (n : ℕ) {x : List ℕ} → 0 < n → x ≡ cut v (folded v s p n) → x ≡ folded v s p n
  unfolding folded
  fold_done s p zero h e = absurd (omega arith)
  fold_done s p (suc n) h e = e ∙ cut-compress v _ _

  -- bytes that hold no block
  pub fold_none : (s p : List ℕ) → length p < v.block → s ≡ folded v s p (length p / v.block)
  unfolding folded
  fold_none s p less = rw (div-eq_of_lt less)

  -- one block
  pub fold_one : (s b : List ℕ) → 0 < v.block → length b ≡ v.block → folded v s b (length b / v.block) ≡ compress v (cut v s) (words_of v 16 b)
  unfolding folded block_at
  fold_one s b some e =
      let q : length b / v.block ≡ 1 = ap (λ (k : ℕ). k / v.block) (e ∙ omega (arith, suc-mul 0 v.block, zero-mul v.block)) ∙ digits_div 1 {m = v.block} {r = 0} some in
      let z : 0 * v.block ≡ 0 = zero-mul v.block in
      let t : take v.block b ≡ b = take_all v.block b (omega arith) in
      rw (q, z, t)
