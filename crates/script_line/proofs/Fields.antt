-- The numbers and bytes of a line's fields.
use Prim.Native.Nat.{ℕ, zero, suc, ◌+◌, ◌*◌, ◌/◌, ◌%◌, ◌^◌, ◌≤◌, ◌<◌}
use mathlib.Core.Bool.{Bool, true, false, cond}
use mathlib.Core.Path.{◌≡◌, refl, ◌∙◌}
use mathlib.Core.List.{List, [], ◌∷◌}
use native.Mathlib.Nat.{pow-suc}
use native.Mathlib.Numerals.{add-one}
use native.Mathlib.Omega.{arith}
use lib.Dec.{eqb, ltb}
use lib.ListN.{length, drop, get_or, drop_of_length-le}
use lib.Seq.{drop-cons}
use borrow.Author.Tests.{ne_eqb, eq-eqb, lt-ltb, le-ltb, ltb-false}
use Rattle.std.specs.Prelude.{None, Some, Result, Ok, Err}
use Rattle.std.specs.Str.{bytes_eq}
use Rattle.buffer.specs.Buffer.{fronted}
use Rattle.hex_text.specs.declared.BadDigit.{BadDigit}
use Rattle.hex_text.specs.Hex.{read_digit, hex_run, unhex, bad, read_hex, out_of}
use Rattle.hex_text.proofs.Pairs.{digit_read, none_read, run-within}
use Rattle.script_line.specs.Fields.{hex_on, hex_number, dash, read_body, body_of, kept}

-- one hex digit more
module _ (s : List ℕ) (i n : ℕ) (h : i < length s) where
  pub hex_next : {d : ℕ} → read_digit (get_or s i 0) ≡ Some d → hex_on (n * 16 + d) (drop (i + 1) s) ≡ hex_on n (drop i s)
  unfolding hex_on
  hex_next e = let x = digit_read (get_or s i 0) e in rw (add-one, drop-cons s i 0, x.0, ← x.1)

  pub hex_none : read_digit (get_or s i 0) ≡ None → None ≡ hex_on n (drop i s)
  unfolding hex_on
  hex_none e = let x = none_read (get_or s i 0) e in rw (drop-cons s i 0, x)

pub hex_end : (s : List ℕ) (i n : ℕ) → length s ≤ i → Some n ≡ hex_on n (drop i s)
unfolding hex_on
hex_end s i n h = rw (drop_of_length-le s {i = i} h)

module _ (s : List ℕ) where
  pub hex_empty : length s ≡ 0 → None ≡ hex_number s
  unfolding hex_number
  hex_empty e = rw (eq-eqb _ _ e)

  pub hex_long : 4 < length s → None ≡ hex_number s
  unfolding hex_number
  hex_long h = let n : length s ≡ 0 → ⊥ = λ e. omega arith in rw (ne_eqb _ _ n, lt-ltb _ _ h)

  pub hex_some : (length s ≡ 0 → ⊥) → length s ≤ 4 → hex_on 0 s ≡ hex_number s
  unfolding hex_number
  hex_some n h = rw (ne_eqb _ _ n, le-ltb _ _ h)

-- i digits are below 16 ^ i
pub power_next : (i n d : ℕ) → n < 16 ^ i → d < 16 → n * 16 + d < 16 ^ (i + 1)
power_next i n d h l = rw add-one (omega (arith, pow-suc 16 i))

pub power_small : (i n : ℕ) → i < 4 → n < 16 ^ i → n < 4096
power_small zero n h l = omega arith
power_small (suc zero) n h l = omega arith
power_small (suc (suc zero)) n h l = omega arith
power_small (suc (suc (suc zero))) n h l = omega arith
power_small (suc (suc (suc (suc i)))) n h l = absurd (omega arith)

-- bytes, or a dash
pub body_dash : (s : List ℕ) (room : ℕ) (out : List ℕ) → true ≡ bytes_eq s dash → (Ok 0 ≡ read_body s room) × (out ≡ kept (Ok 0) (body_of s) out)
unfolding read_body body_of kept fronted
body_dash s room out e = (rw (← e), rw (← e))

kept_hex : (r : Result ℕ BadDigit) (s out : List ℕ) → out_of r s out ≡ kept r (unhex s) out
unfolding out_of kept
kept_hex (Ok n) s out = refl
kept_hex (Err e) s out = refl

pub body_hex : (s : List ℕ) (room : ℕ) (out : List ℕ) {r : Result ℕ BadDigit} {after : List ℕ} → false ≡ bytes_eq s dash → r ≡ read_hex s room → after ≡ out_of r s out
    → (r ≡ read_body s room) × (after ≡ kept r (body_of s) out)
unfolding read_body body_of
body_hex s room out {r} e er ea = (rw (← e) er, rw (← e) (ea ∙ kept_hex r s out))

-- how many bytes were read
length-unhex : (s : List ℕ) → length (unhex s) ≡ length s / 2
unfolding unhex
length-unhex [] = refl
length-unhex (a ∷ []) = refl
length-unhex (a ∷ b ∷ cs) = let e = length-unhex cs in omega (arith, e)

bytes-by : (t u v : Bool) (i j m n k : ℕ) → (u ≡ false → n ≡ k) → Ok m ≡ cond t (bad i) (cond u (bad j) (cond v (Ok n) (bad j))) → m ≡ k
bytes-by true u v i j m n k h e = absurd (let z : ◌≡◌ {A = ℕ} 0 1 = cc in omega arith)
bytes-by false true v i j m n k h e = absurd (let z : ◌≡◌ {A = ℕ} 0 1 = cc in omega arith)
bytes-by false false false i j m n k h e = absurd (let z : ◌≡◌ {A = ℕ} 0 1 = cc in omega arith)
bytes-by false false true i j m n k h e = let z : m ≡ n = cc in z ∙ h refl

hex_length : (s : List ℕ) (room m : ℕ) → Ok m ≡ read_hex s room → m ≡ length (unhex s)
unfolding read_hex
hex_length s room m e =
    bytes-by (ltb room (hex_run s / 2)) (ltb (hex_run s) (length s)) (eqb (hex_run s % 2) 0) (room * 2) (hex_run s) m (hex_run s / 2) (length (unhex s))
    (λ u. let l : length s ≤ hex_run s = ltb-false _ _ u in omega (arith, run-within s, length-unhex s))
    e

length-by : (t : Bool) (s : List ℕ) (room m : ℕ) → Ok m ≡ cond t (Ok 0) (read_hex s room) → m ≡ length (cond t [] (unhex s))
length-by true s room m e = cc
length-by false s room m e = hex_length s room m e

pub body-length : (s : List ℕ) (room m : ℕ) → Ok m ≡ read_body s room → m ≡ length (body_of s)
unfolding read_body body_of
body-length s room m e = length-by (bytes_eq s dash) s room m e
