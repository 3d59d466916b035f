-- The value of a character.
use Prim.Native.Nat.{ℕ, ◌-◌, ◌≤◌}
use mathlib.Core.Path.{◌≡◌}
use Rattle.hex_text.proofs.Values.{inside, outside}
use Rattle.text.specs.Decimal.{decimal_value}

module _ (c : ℕ) where
  pub decimal_value_lem : 48 ≤ c → c ≤ 57 → c - 48 ≡ decimal_value c
  unfolding decimal_value
  decimal_value_lem p q = simp (inside 48 57 c p q)

  pub no_decimal : (48 ≤ c → c ≤ 57 → ⊥) → 10 ≡ decimal_value c
  unfolding decimal_value
  no_decimal d = simp (outside 48 57 c d)
