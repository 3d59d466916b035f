-- Laws of bytes and words, once for every variant.
use mathlib.Core.Path.{◌≡◌, refl, ap, ◌∙◌}
use mathlib.Core.List.{List, ◌∷◌, ◌++◌}
use Prim.Native.Nat.{ℕ, zero, suc, ◌+◌, ◌*◌, ◌/◌, ◌%◌, ◌^◌, ◌≤◌, ◌<◌}
use native.Mathlib.Numerals.{add-one}
use native.Mathlib.Nat.{suc-add, zero-add, lt_of_lt_of_le, pow-le-pow_right, div-eq_of_lt, div-one}
use native.Mathlib.Omega.{arith}
use lib.ListN.{length, get_or, take, drop, set}
use lib.Seq.{drop-cons, take-suc-set, take_all}
use Rattle.std.specs.Int.{from_be_bytes, bytes_high_first, w32, w64}
use Rattle.buffer.specs.Buffer.{zeros}
use Rattle.fips180.specs.Words.{number_from, bytes_of}
use Rattle.fips180.specs.Variant.{Variant}
use Rattle.fips180.specs.Padding.{words_of}

-- the number that bytes of a list stand for, one byte after the other
number-next : (x n j k : ℕ) (bs : List ℕ) → k ≡ j + 1 → j < length bs
    → number_from x (take (suc n) (drop j bs)) ≡ number_from (x * 256 + get_or bs j 0) (take n (drop k bs))
unfolding number_from
number-next x n j k bs e h = rw (e, add-one, drop-cons bs j 0)

pub number4 : (x j : ℕ) (bs : List ℕ) → j + 4 ≤ length bs
    → number_from x (take 4 (drop j bs)) ≡ (((x * 256 + get_or bs j 0) * 256 + get_or bs (j + 1) 0) * 256 + get_or bs (j + 2) 0) * 256 + get_or bs (j + 3) 0
unfolding number_from
number4 x j bs h =
    number-next x 3 j (j + 1) bs refl (omega arith)
    ∙ number-next _ 2 (j + 1) (j + 2) bs (omega arith) (omega arith)
    ∙ number-next _ 1 (j + 2) (j + 3) bs (omega arith) (omega arith)
    ∙ number-next _ 0 (j + 3) (j + 4) bs (omega arith) (omega arith)

-- the word that four bytes are, as `u32::from_be_bytes` has it
pub word4 : (bs : List ℕ) → length bs ≡ 4 → from_be_bytes w32 bs ≡ number_from 0 bs
word4 bs l =
    let t : take 4 bs ≡ bs = take_all 4 bs (omega arith) in
    let e : number_from 0 bs ≡ _ = rw t at (number4 0 0 bs (omega arith)) in
    omega (arith, e)

-- one more word of a block
pub load_step : (v : Variant) (w b : List ℕ) {i x : ℕ} → i < length w → take i w ≡ words_of v i b
    → x ≡ number_from 0 (take v.bytes (drop (i * v.bytes) b)) → take (i + 1) (set w i x) ≡ words_of v (i + 1) b
unfolding words_of
load_step v w b {i} {x} h e ex = rw (add-one, take-suc-set) (cc)

number8 : (x j : ℕ) (bs : List ℕ) → j + 8 ≤ length bs → number_from x (take 8 (drop j bs)) ≡ (((((((x * 256 + get_or bs j 0) * 256 + get_or bs (j + 1) 0) * 256 + get_or bs (j + 2) 0) * 256 + get_or bs (j + 3) 0) * 256 + get_or bs (j + 4) 0) * 256 + get_or bs (j + 5) 0) * 256 + get_or bs (j + 6) 0) * 256 + get_or bs (j + 7) 0
unfolding number_from
number8 x j bs h =
    number-next x 7 j (j + 1) bs refl (omega arith)
    ∙ number-next _ 6 (j + 1) (j + 2) bs (omega arith) (omega arith)
    ∙ number-next _ 5 (j + 2) (j + 3) bs (omega arith) (omega arith)
    ∙ number-next _ 4 (j + 3) (j + 4) bs (omega arith) (omega arith)
    ∙ number-next _ 3 (j + 4) (j + 5) bs (omega arith) (omega arith)
    ∙ number-next _ 2 (j + 5) (j + 6) bs (omega arith) (omega arith)
    ∙ number-next _ 1 (j + 6) (j + 7) bs (omega arith) (omega arith)
    ∙ number-next _ 0 (j + 7) (j + 8) bs (omega arith) (omega arith)

pub word8 : (bs : List ℕ) → length bs ≡ 8 → from_be_bytes w64 bs ≡ number_from 0 bs
word8 bs l =
    let t : take 8 bs ≡ bs = take_all 8 bs (omega arith) in
    let e : number_from 0 bs ≡ _ = rw t at (number8 0 0 bs (omega arith)) in
    omega (arith, e)

-- the bytes of a number, as `to_be_bytes` has them
pub be_bytes : (n x : ℕ) → bytes_high_first n x ≡ bytes_of n x
unfolding bytes_of
be_bytes zero x = refl
be_bytes (suc zero) x = rw div-one
be_bytes (suc (suc n)) x = ap (λ (l : List ℕ). (x / 256 ^ suc n) % 256 ∷ l) (be_bytes (suc n) x)

-- a number that n bytes hold, in k bytes more
pub bytes_wide : (k n x : ℕ) → x < 256 ^ n → bytes_of (k + n) x ≡ zeros k ++ bytes_of n x
unfolding bytes_of zeros
bytes_wide zero n x h = rw zero-add
bytes_wide (suc k) n x h =
    let e : x / 256 ^ (k + n) ≡ 0 = div-eq_of_lt (lt_of_lt_of_le h (pow-le-pow_right (omega arith) (omega arith))) in
    rw (suc-add, e) (ap (λ (l : List ℕ). 0 ∷ l) (bytes_wide k n x h))
