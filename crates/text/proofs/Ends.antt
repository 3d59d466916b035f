-- The length of a field.
use Prim.Native.Nat.{ℕ, suc, ◌+◌, ◌≤◌}
use mathlib.Core.Bool.{Bool, true, false, cond, not, ◌&&◌, ◌||◌}
use mathlib.Core.Path.{◌≡◌, refl}
use mathlib.Core.List.{List, [], ◌∷◌}
use native.Mathlib.Omega.{arith}
use lib.Dec.{eqb}
use lib.ListN.{length}
use Rattle.std.specs.List.{prefix_len}
use Rattle.std.proofs.lemmas.List.Sums.{prefix_len-le-length}
use Rattle.text.specs.Field.{field_len}

-- no space and no line feed
abbrev pub is_inside : ℕ → Bool
is_inside c = not (eqb c 32) && not (eqb c 10)

one : (t u : Bool) (n : ℕ) → cond (t || u) 0 (suc n) ≡ cond (not t && not u) (1 + n) 0
one true u n = refl
one false true n = refl
one false false n = omega arith

pub len_is : (s : List ℕ) → field_len s ≡ prefix_len is_inside s
unfolding field_len
len_is [] = refl
len_is (c ∷ cs) = rw (len_is cs) (one (eqb c 32) (eqb c 10) _)

pub len_within : (s : List ℕ) → field_len s ≤ length s
len_within s = rw len_is (prefix_len-le-length is_inside s)
