-- A list that a loop fills one element at a time, and the elements of the lists that are filled so. Once for every variant.
use mathlib.Core.Path.{◌≡◌, refl, sym, ◌∙◌}
use mathlib.Core.List.{List}
use Prim.Native.Nat.{ℕ, zero, suc, ◌+◌, ◌%◌, ◌^◌, ◌≤◌, ◌<◌}
use native.Mathlib.Numerals.{add-one}
use native.Mathlib.Omega.{arith}
use lib.ListN.{length, get_or, set, take}
use lib.Seq.{take-suc, take-suc-set, take_all}
use Rattle.fips180.specs.Words.{plus}
use Rattle.fips180.specs.Variant.{Variant}
use Rattle.fips180.specs.Hash.{sums}
use Rattle.fips180.specs.Rows.{cut}

pub fill_step : (l r : List ℕ) {i x : ℕ} → i < length l → i < length r → take i r ≡ take i l → x ≡ get_or l i 0
    → take (i + 1) (set r i x) ≡ take (i + 1) l
fill_step l r {i} {x} h k e ex = rw (add-one, take-suc-set, take-suc l i 0 h) (cc)

pub fill_done : (l r : List ℕ) {i : ℕ} → length l ≤ i → length r ≤ i → take i r ≡ take i l → r ≡ l
fill_done l r {i} h k e = sym (take_all i r k) ∙ e ∙ take_all i l h

module _ (v : Variant) where
  pub sums_at : (s x : List ℕ) (i : ℕ) → i < 8 → plus v.bits (get_or s i 0) (get_or x i 0) ≡ get_or (sums v s x) i 0
  unfolding sums
  sums_at s x zero h = refl
  sums_at s x (suc zero) h = refl
  sums_at s x (suc (suc zero)) h = refl
  sums_at s x (suc (suc (suc zero))) h = refl
  sums_at s x (suc (suc (suc (suc zero)))) h = refl
  sums_at s x (suc (suc (suc (suc (suc zero))))) h = refl
  sums_at s x (suc (suc (suc (suc (suc (suc zero)))))) h = refl
  sums_at s x (suc (suc (suc (suc (suc (suc (suc zero))))))) h = refl
  sums_at s x (suc (suc (suc (suc (suc (suc (suc (suc i)))))))) h = absurd (omega arith)

  pub cut_at : (s : List ℕ) (i : ℕ) → i < 8 → get_or s i 0 % 2 ^ v.bits ≡ get_or (cut v s) i 0
  unfolding cut
  cut_at s zero h = refl
  cut_at s (suc zero) h = refl
  cut_at s (suc (suc zero)) h = refl
  cut_at s (suc (suc (suc zero))) h = refl
  cut_at s (suc (suc (suc (suc zero)))) h = refl
  cut_at s (suc (suc (suc (suc (suc zero))))) h = refl
  cut_at s (suc (suc (suc (suc (suc (suc zero)))))) h = refl
  cut_at s (suc (suc (suc (suc (suc (suc (suc zero))))))) h = refl
  cut_at s (suc (suc (suc (suc (suc (suc (suc (suc i)))))))) h = absurd (omega arith)
