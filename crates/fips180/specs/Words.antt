-- FIPS 180-4, sections 2.2.2, 3.1, 3.2 and 4.1: words, and the operations and functions on them.
-- A word of w bits is a number below 2 ^ w, a byte one below 256, and a message a list of bytes.
use Rattle.std.specs.Prelude.{ℕ, zero, suc, ◌+◌, ◌-◌, ◌*◌, ◌/◌, ◌%◌, ◌^◌, List, [], ◌∷◌}
use Rattle.std.specs.Int.Bits.{bit_and, bit_or, bit_xor}

-- 2.2.2: addition modulo 2 ^ w, rotation and shift to the right by n bits
unfoldable pub plus : ℕ → ℕ → ℕ → ℕ
plus w x y = (x + y) % 2 ^ w

unfoldable pub rotr : ℕ → ℕ → ℕ → ℕ
rotr w n x = bit_or (x / 2 ^ n) ((x * 2 ^ (w - n)) % 2 ^ w)

unfoldable pub shr : ℕ → ℕ → ℕ
shr n x = x / 2 ^ n

-- 3.1: a number as n bytes, high byte first, and the number that bytes after x stand for
unfoldable pub bytes_of : ℕ → ℕ → List ℕ
bytes_of zero x = []
bytes_of (suc n) x = (x / 256 ^ n) % 256 ∷ bytes_of n x

unfoldable pub number_from : ℕ → List ℕ → ℕ
number_from x [] = x
number_from x (b ∷ bs) = number_from (x * 256 + b) bs

-- 4.1: Ch and Maj. (2 ^ w - 1) - x is x with each of its w bits inverted
unfoldable pub ch : ℕ → ℕ → ℕ → ℕ → ℕ
ch w x y z = bit_xor (bit_and x y) (bit_and ((2 ^ w - 1) - x) z)

unfoldable pub maj : ℕ → ℕ → ℕ → ℕ
maj x y z = bit_xor (bit_xor (bit_and x y) (bit_and x z)) (bit_and y z)

-- 4.1: the form of the four sigma functions, and the amounts that tell them apart
pub record Amounts : Type 0 where
  pub first : ℕ
  pub second : ℕ
  pub third : ℕ

abbrev pub by : ℕ → ℕ → ℕ → Amounts
by p q r = record { first = p; second = q; third = r }

-- three rotations
unfoldable pub rotations : ℕ → Amounts → ℕ → ℕ
rotations w a x = bit_xor (bit_xor (rotr w a.first x) (rotr w a.second x)) (rotr w a.third x)

-- two rotations and a shift
unfoldable pub rotations_shift : ℕ → Amounts → ℕ → ℕ
rotations_shift w a x = bit_xor (bit_xor (rotr w a.first x) (rotr w a.second x)) (shr a.third x)
