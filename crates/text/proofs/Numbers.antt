-- Decimal digits, written and read.
use Prim.Native.Nat.{ℕ, zero, suc, ◌+◌, ◌-◌, ◌*◌, ◌/◌, ◌%◌, ◌^◌, ◌≤◌, ◌<◌}
use mathlib.Core.Bool.{Bool, true, false, cond}
use mathlib.Core.Path.{◌≡◌, refl}
use mathlib.Core.List.{List}
use mathlib.Core.Logic.{◌⊎◌, inl, inr, ⊎_elim}
use native.Mathlib.Nat.{pow-suc}
use native.Mathlib.Numerals.{add-one}
use native.Mathlib.Omega.{arith}
use lib.Dec.{eqb, ltb}
use lib.ListN.{length, drop, get_or, drop_of_length-le}
use lib.Seq.{drop-cons}
use borrow.Author.Tests.{lt-ltb, le-ltb, ltb-true, ltb-false, ne_eqb, eq-eqb}
use Rattle.buffer.specs.Buffer.{after, behind}
use Rattle.io.specs.Digits.{last_digits, IsDigitCount}
use Rattle.text.specs.Decimal.{digits_of, decimal_of, max_decimal, decimal_value, read_digit, read_on, read_decimal}
use Rattle.std.specs.Prelude.{None, Some}

-- the digits of `io::decimal` are those of the definition
some_power : (k : ℕ) → 1 ≤ 10 ^ k
some_power zero = omega arith
some_power (suc k) = omega (arith, some_power k, pow-suc 10 k)

less_one : (k : ℕ) → 10 ^ (suc k - 1) ≡ 10 ^ k
less_one k = let e : suc k - 1 ≡ k = omega arith in rw e

one_digit : (f n k : ℕ) → n < 10 → IsDigitCount 10 1 n (suc k) → last_digits 10 (suc k) n ≡ digits_of (suc f) n
unfolding digits_of
one_digit f n zero h w = let m : n % 10 ≡ n = omega arith in rw (m, lt-ltb _ _ h)
one_digit f n (suc k) h w = absurd (omega (arith, w.2 (omega arith), less_one (suc k), some_power k, pow-suc 10 k))

more_digits : (n k : ℕ) → 10 ≤ n → IsDigitCount 10 1 n (suc k) → IsDigitCount 10 1 (n / 10) k
more_digits n zero h w = absurd (omega arith)
more_digits n (suc k) h w = (omega arith, omega (arith, pow-suc 10 (suc k)), λ l. omega (arith, w.2 (omega arith), less_one k, less_one (suc k), pow-suc 10 k))

ten : (n : ℕ) (t : Bool) → ltb n 10 ≡ t → (n < 10) ⊎ (10 ≤ n)
ten n true e = inl (ltb-true _ _ e)
ten n false e = inr (ltb-false _ _ e)

digits_are : (f n k : ℕ) → IsDigitCount 10 1 n k → n < 10 ^ suc f → last_digits 10 k n ≡ digits_of (suc f) n
unfolding digits_of
digits_are f n zero w l = absurd (omega arith)
digits_are zero n (suc k) w l = one_digit zero n k (omega arith) w
digits_are (suc f) n (suc k) w l =
    ⊎_elim
    (λ h. one_digit (suc f) n k h w)
    (λ h.
    let m : n % 10 < 10 = omega arith in
    let r : n / 10 < 10 ^ suc f = omega (arith, pow-suc 10 (suc f)) in
    rw (le-ltb _ _ h, lt-ltb _ _ m, digits_are f (n / 10) k (more_digits n k h w) r))
    (ten n (ltb n 10) refl)

pub decimal_is : (n k : ℕ) → IsDigitCount 10 1 n k → n < 10 ^ 20 → last_digits 10 k n ≡ decimal_of n
unfolding decimal_of
decimal_is n k w l = digits_are 19 n k w l

-- what `buffer::put` promises, of equal bytes
pub put_same : (at : ℕ) (xs : List ℕ) {r : ℕ} {bs cs ys : List ℕ} → bs ≡ cs → r ≡ behind at bs xs → ys ≡ after at bs xs → (r ≡ behind at cs xs) × (ys ≡ after at cs xs)
put_same at xs e p q = (rw (← e) p, rw (← e) q)

-- one character more
digit_by : (v : ℕ) (t : Bool) {d : ℕ} → cond t None (Some v) ≡ Some d → (t ≡ false) × (d ≡ v)
digit_by v true e = (cc, cc)
digit_by v false e = (refl, cc)

none_by : (v : ℕ) (t : Bool) → cond t None (Some v) ≡ None → t ≡ true
none_by v true e = refl
none_by v false e = cc

module _ (s : List ℕ) (i n : ℕ) (h : i < length s) where
  pub read_next : {d : ℕ} → read_digit (get_or s i 0) ≡ Some d → n * 10 + d ≤ max_decimal → read_on (n * 10 + d) (drop (i + 1) s) ≡ read_on n (drop i s)
  unfolding read_on read_digit
  read_next e m = let x = digit_by (decimal_value (get_or s i 0)) (eqb (decimal_value (get_or s i 0)) 10) e in rw (add-one, drop-cons s i 0, x.0, ← x.1, le-ltb _ _ m)

  pub read_large : {d : ℕ} → read_digit (get_or s i 0) ≡ Some d → max_decimal < n * 10 + d → None ≡ read_on n (drop i s)
  unfolding read_on read_digit
  read_large e m = let x = digit_by (decimal_value (get_or s i 0)) (eqb (decimal_value (get_or s i 0)) 10) e in rw (drop-cons s i 0, x.0, ← x.1, lt-ltb _ _ m)

  pub read_none : read_digit (get_or s i 0) ≡ None → None ≡ read_on n (drop i s)
  unfolding read_on read_digit
  read_none e = let x = none_by (decimal_value (get_or s i 0)) (eqb (decimal_value (get_or s i 0)) 10) e in rw (drop-cons s i 0, x)

pub read_end : (s : List ℕ) (i n : ℕ) → length s ≤ i → Some n ≡ read_on n (drop i s)
unfolding read_on
read_end s i n h = rw (drop_of_length-le s {i = i} h)

pub read_some : (s : List ℕ) → (length s ≡ 0 → ⊥) → read_on 0 s ≡ read_decimal s
unfolding read_decimal
read_some s n = rw (ne_eqb _ _ n)

pub read_empty : (s : List ℕ) → length s ≡ 0 → None ≡ read_decimal s
unfolding read_decimal
read_empty s e = rw (eq-eqb _ _ e)
