-- FIPS 180-4, sections 5.1 and 5.2: padding a message and parsing it into blocks.
use Rattle.std.specs.Prelude.{ℕ, zero, suc, ◌+◌, ◌-◌, ◌*◌, ◌/◌, ◌%◌, List, [], ◌∷◌, ◌++◌, length, take, drop}
use Rattle.buffer.specs.Buffer.{zeros}
use Rattle.fips180.specs.Words.{bytes_of, number_from}
use Rattle.fips180.specs.Variant.{Variant}

module _ (v : Variant) where
  -- 5.1: the fewest zero bytes that complete a block behind n bytes, the byte 80 and the length field
  unfoldable pub zeros_for : ℕ → ℕ
  zeros_for n = (v.block - (n + (1 + v.field)) % v.block) % v.block

  -- 5.1: what is put behind a message of n bytes: a one bit, zeros, and the length in bits
  unfoldable pub padding : ℕ → List ℕ
  padding n = 0x80 ∷ zeros (zeros_for n) ++ bytes_of v.field (n * 8)

  unfoldable pub padded : List ℕ → List ℕ
  padded m = m ++ padding (length m)

  -- the number of blocks that a padded message of n bytes takes
  unfoldable pub blocks : ℕ → ℕ
  blocks n = (n + 1 + zeros_for n + v.field) / v.block

  -- 5.2: block i of a padded message, and the first n words of a block
  unfoldable pub block_at : List ℕ → ℕ → List ℕ
  block_at p i = take v.block (drop (i * v.block) p)

  unfoldable pub words_of : ℕ → List ℕ → List ℕ
  words_of zero bs = []
  words_of (suc n) bs = words_of n bs ++ (number_from 0 (take v.bytes (drop (n * v.bytes) bs)) ∷ [])
