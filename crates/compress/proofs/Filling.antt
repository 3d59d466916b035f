-- Arrays of words, by the numbers that the words are, filled one element at a time.
use mathlib.Core.Path.{◌≡◌}
use mathlib.Core.List.{List, map}
use Prim.Native.Nat.{ℕ, ◌+◌, ◌≤◌, ◌<◌}
use lib.ListN.{length, get_or, set, take}
use Rattle.std.proofs.lemmas.List.{map-set, length-map}
use Rattle.fips180.proofs.Filling.{fill_step, fill_done}

module _ {W : Type 0} (f : W → ℕ) where
  pub filled-next : (l : List ℕ) (r : List W) {i : ℕ} {x : W} → i < length l → i < length r
      → take i (map f r) ≡ take i l → f x ≡ get_or l i 0 → take (i + 1) (map f (set r i x)) ≡ take (i + 1) l
  filled-next l r {i} {x} h k e ex = rw map-set (fill_step l (map f r) h (rw length-map k) e ex)

  pub filled : (l : List ℕ) (r : List W) {i : ℕ} → length l ≤ i → length r ≤ i → take i (map f r) ≡ take i l
      → map f r ≡ l
  filled l r {i} h k e = fill_done l (map f r) h (rw length-map k) e
