-- Two hex digits a byte, written and read from the front on.
use Prim.Native.Nat.{ℕ, suc, ◌+◌, ◌*◌, ◌/◌, ◌≤◌, ◌<◌}
use mathlib.Core.Bool.{Bool, true, false, cond}
use mathlib.Core.Path.{◌≡◌, refl, sym, ap, ◌∙◌}
use mathlib.Core.List.{List, [], ◌∷◌, ◌++◌}
use native.Mathlib.Nat.{add-zero, zero-add}
use native.Mathlib.Numerals.{add-one}
use native.Mathlib.Omega.{arith}
use lib.Dec.{eqb}
use lib.ListN.{length, take, drop, set, get_or, drop_of_length-le, length-set, take-append-drop}
use lib.Seq.{drop-cons, drop-set-lt, take-suc-set, append_snoc}
use Rattle.buffer.specs.Buffer.{overwrite, fronted}
use Rattle.std.specs.Prelude.{None, Some, IsSome}
use Rattle.std.specs.Char.{is_ascii_hexdigit}
use Rattle.std.proofs.lemmas.Bool.Decides.{nat_tests}
use Rattle.std.specs.List.{prefix_len}
use Rattle.std.proofs.lemmas.List.Sums.{prefix_len-le-length}
use Rattle.hex_text.specs.Hex.{hex_value, read_digit, hex_digit, hex_of, hex_run, unhex}

-- one byte more of those that are written from index at on
overwrite-cons : (at v : ℕ) (bs xs : List ℕ) → at < length xs → overwrite at (v ∷ bs) xs ≡ overwrite (at + 1) bs (set xs at v)
unfolding overwrite
overwrite-cons at v bs xs h =
    let d : drop (at + 1 + length bs) (set xs at v) ≡ drop (at + 1 + length bs) xs = drop-set-lt (at + 1 + length bs) xs at v (omega arith) in
    let n : at + suc (length bs) ≡ at + 1 + length bs = omega arith in
    let t : take (at + 1) (set xs at v) ≡ take at xs ++ (v ∷ []) = ap (λ (k : ℕ). take k (set xs at v)) (add-one at) ∙ take-suc-set xs at v h in
    rw (d, t, n) (sym (append_snoc (take at xs) v (bs ++ drop (at + 1 + length bs) xs)))

pub overwrite-nil : (at : ℕ) (xs : List ℕ) → overwrite at [] xs ≡ xs
unfolding overwrite
overwrite-nil at xs = rw add-zero (take-append-drop at xs)

pub overwrite_front : (bs xs : List ℕ) → overwrite 0 bs xs ≡ fronted bs xs
unfolding overwrite fronted
overwrite_front bs xs = rw zero-add

-- bytes to digits
pub length_hex_of : (bs : List ℕ) → length (hex_of bs) ≡ length bs * 2
unfolding hex_of
length_hex_of [] = refl
length_hex_of (b ∷ bs) = let e = length_hex_of bs in omega (arith, e)

pub hex_of-none : (bs : List ℕ) (i : ℕ) → length bs ≤ i → hex_of (drop i bs) ≡ []
unfolding hex_of
hex_of-none bs i h = rw (drop_of_length-le bs {i = i} h)

drop-next : (s : List ℕ) (k : ℕ) → k < length s → drop k s ≡ get_or s k 0 ∷ drop (k + 1) s
drop-next s k h = rw (add-one, drop-cons s k 0)

hex_of_pair : (bs : List ℕ) (i : ℕ) → i < length bs → hex_of (drop i bs) ≡ hex_digit (get_or bs i 0 / 16) ∷ hex_digit (get_or bs i 0) ∷ hex_of (drop (i + 1) bs)
unfolding hex_of
hex_of_pair bs i h = rw (drop-next bs i h)

pub hex_of-next : (bs : List ℕ) (i at : ℕ) (xs : List ℕ) {x y : ℕ} → i < length bs → at + 1 < length xs
    → x ≡ hex_digit (get_or bs i 0 / 16) → y ≡ hex_digit (get_or bs i 0)
    → overwrite (at + 2) (hex_of (drop (i + 1) bs)) (set (set xs at x) (at + 1) y) ≡ overwrite at (hex_of (drop i bs)) xs
hex_of-next bs i at xs {x} {y} h k ex ey =
    let n : at + 1 + 1 ≡ at + 2 = omega arith in
    let l : at + 1 < length (set xs at x) = simp length-set k in
    let t = hex_of (drop (i + 1) bs) in
    rw (hex_of_pair bs i h, ← ex, ← ey) (sym (overwrite-cons at x (y ∷ t) xs (omega arith) ∙ overwrite-cons (at + 1) y t (set xs at x) l ∙ rw n))

-- the digits that s starts with
digit_is : (c n : ℕ) → cond (eqb (hex_value c) 16) 0 (suc n) ≡ cond (is_ascii_hexdigit c) (1 + n) 0
unfolding hex_value
digit_is c n = grind (arith, nat_tests)

pub run_is : (s : List ℕ) → hex_run s ≡ prefix_len is_ascii_hexdigit s
unfolding hex_run
run_is [] = refl
run_is (c ∷ cs) = rw (run_is cs) (digit_is c _)

pub run-within : (s : List ℕ) → hex_run s ≤ length s
run-within s = rw run_is (prefix_len-le-length is_ascii_hexdigit s)

cond-suc : (t : Bool) (n m : ℕ) → cond t 0 (suc n) ≡ suc m → (t ≡ false) × (n ≡ m)
cond-suc true n m e = absurd (omega arith)
cond-suc false n m e = (refl, omega arith)

-- the value that was read of a character
module _ (a : ℕ) where
  some_digit : eqb (hex_value a) 16 ≡ false → IsSome (read_digit a)
  unfolding read_digit
  some_digit e = rw e refl

  some_by : (t : Bool) {d : ℕ} → cond t None (Some (hex_value a)) ≡ Some d → (t ≡ false) × (d ≡ hex_value a)
  some_by true e = (cc, cc)
  some_by false e = (refl, cc)

  none_by : (t : Bool) → cond t None (Some (hex_value a)) ≡ None → t ≡ true
  none_by true e = refl
  none_by false e = cc

  pub digit_read : {d : ℕ} → read_digit a ≡ Some d → (eqb (hex_value a) 16 ≡ false) × (d ≡ hex_value a)
  unfolding read_digit
  digit_read e = some_by (eqb (hex_value a) 16) e

  pub none_read : read_digit a ≡ None → eqb (hex_value a) 16 ≡ true
  unfolding read_digit
  none_read e = none_by (eqb (hex_value a) 16) e

-- The characters s start with the pair x, and t are those behind it.
two : (x : List ℕ) → length x ≡ 2 → x ≡ get_or x 0 0 ∷ get_or x 1 0 ∷ []
two [] l = absurd (omega arith)
two (a ∷ []) l = absurd (omega arith)
two (a ∷ b ∷ []) l = refl
two (a ∷ b ∷ c ∷ x) l = absurd (omega arith)

module _ (s x t : List ℕ) (es : s ≡ x ++ t) (l : length x ≡ 2) where
  parts : s ≡ get_or x 0 0 ∷ get_or x 1 0 ∷ t
  parts = es ∙ ap (λ (y : List ℕ). y ++ t) (two x l)

  module _ (digits : hex_run s ≡ length s) where
    first : (eqb (hex_value (get_or x 0 0)) 16 ≡ false) × (hex_run (get_or x 1 0 ∷ t) ≡ suc (length t))
    unfolding hex_run
    first = let d : hex_run (get_or x 0 0 ∷ get_or x 1 0 ∷ t) ≡ suc (suc (length t)) = rw parts at digits in cond-suc (eqb (hex_value (get_or x 0 0)) 16) _ _ d

    second : (eqb (hex_value (get_or x 1 0)) 16 ≡ false) × (hex_run t ≡ length t)
    unfolding hex_run
    second = cond-suc (eqb (hex_value (get_or x 1 0)) 16) _ _ first.1

    pub high_is_digit : IsSome (read_digit (get_or x 0 0))
    high_is_digit = some_digit (get_or x 0 0) first.0

    pub low_is_digit : IsSome (read_digit (get_or x 1 0))
    low_is_digit = some_digit (get_or x 1 0) second.0

    pub rest_digits : hex_run t ≡ length t
    rest_digits = second.1

  pub unhex-next : (i : ℕ) (xs : List ℕ) {h w : ℕ} → i < length xs → read_digit (get_or x 0 0) ≡ Some h → read_digit (get_or x 1 0) ≡ Some w
      → overwrite (i + 1) (unhex t) (set xs i (h * 16 + w)) ≡ overwrite i (unhex s) xs
  unfolding unhex
  unhex-next i xs {h} {w} k eh ew =
      rw (parts, ← (digit_read (get_or x 0 0) eh).1, ← (digit_read (get_or x 1 0) ew).1) (sym (overwrite-cons i (h * 16 + w) (unhex t) xs k))

pub unhex-few : (s : List ℕ) → length s < 2 → unhex s ≡ []
unfolding unhex
unhex-few [] l = refl
unhex-few (a ∷ []) l = refl
unhex-few (a ∷ b ∷ s) l = absurd (omega arith)
