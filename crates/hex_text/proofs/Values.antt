-- The value of a character.
use Prim.Native.Nat.{ℕ, ◌-◌, ◌≤◌}
use mathlib.Core.Bool.{Bool, true, false, ◌&&◌}
use mathlib.Core.Path.{◌≡◌, refl}
use native.Mathlib.Omega.{arith}
use lib.Dec.{leb}
use borrow.Author.Tests.{le-leb, leb-true}
use Rattle.hex_text.specs.Hex.{hex_value}

-- a range of characters
pub inside : (a b c : ℕ) → a ≤ c → c ≤ b → (leb a c && leb c b) ≡ true
inside a b c p q = simp (le-leb _ _ p, le-leb _ _ q)

not_both : (t u : Bool) → (t ≡ true → u ≡ true → ⊥) → (t && u) ≡ false
not_both false u n = refl
not_both true false n = refl
not_both true true n = absurd (n refl refl)

pub outside : (a b c : ℕ) → (a ≤ c → c ≤ b → ⊥) → (leb a c && leb c b) ≡ false
outside a b c n = not_both (leb a c) (leb c b) (λ p q. n (leb-true _ _ p) (leb-true _ _ q))

module _ (c : ℕ) where
  pub digit_value : 48 ≤ c → c ≤ 57 → c - 48 ≡ hex_value c
  unfolding hex_value
  digit_value p q = simp (inside 48 57 c p q)

  pub lower_value : 97 ≤ c → c ≤ 102 → c - 87 ≡ hex_value c
  unfolding hex_value
  lower_value p q = simp (inside 97 102 c p q, outside 48 57 c (λ x y. omega arith))

  pub upper_value : 65 ≤ c → c ≤ 70 → c - 55 ≡ hex_value c
  unfolding hex_value
  upper_value p q = simp (inside 65 70 c p q, outside 48 57 c (λ x y. omega arith), outside 97 102 c (λ x y. omega arith))

  pub no_value : (48 ≤ c → c ≤ 57 → ⊥) → (97 ≤ c → c ≤ 102 → ⊥) → (65 ≤ c → c ≤ 70 → ⊥) → 16 ≡ hex_value c
  unfolding hex_value
  no_value d l u = simp (outside 48 57 c d, outside 97 102 c l, outside 65 70 c u)
