-- What the parts of the code compute: the compression sixteen rounds at a time, with sixteen words of the message
-- schedule (`proofs/Rows` shows that this is the compression of Hash), whole blocks one after the other, and a digest
-- in 48 bytes. A hash value's words are kept in 64 bits for both variants, and cut to the variant's width.
use Rattle.std.specs.Prelude.{ℕ, zero, suc, ◌+◌, ◌*◌, ◌%◌, ◌^◌, ◌-◌, cond, List, [], ◌∷◌, ◌++◌, get_or, set, take, drop, eqb}
use Rattle.buffer.specs.Buffer.{zeros}
use Rattle.fips180.specs.Variant.{Variant}
use Rattle.fips180.specs.Padding.{block_at, words_of}
use Rattle.fips180.specs.Hash.{round, next_word, compress, digest_of}

module _ (v : Variant) where
  -- the constants of the sixteen rounds from round 16 q on
  unfoldable pub constants_at : ℕ → List ℕ
  constants_at q = take 16 (drop (q * 16) v.K)

  -- the first n rounds with the constants k and the words w
  unfoldable pub rounds_with : List ℕ → List ℕ → List ℕ → ℕ → List ℕ
  rounds_with s k w zero = s
  rounds_with s k w (suc i) = round v (rounds_with s k w i) (get_or k i 0) (get_or w i 0)

  -- sixteen words of the schedule, the first n of them replaced by the words that come sixteen later
  unfoldable pub advanced : List ℕ → ℕ → List ℕ
  advanced w zero = w
  advanced w (suc i) =
      let a = advanced w i in
      set a i (next_word v (get_or a i 0) (get_or a ((i + 1) % 16) 0) (get_or a ((i + 9) % 16) 0) (get_or a ((i + 14) % 16) 0))

  -- the words of the sixteen rounds from round 16 q on, from those of the sixteen rounds before
  unfoldable pub words_at : List ℕ → ℕ → List ℕ
  words_at w q = cond (eqb q 0) w (advanced w 16)

  -- eight words, each cut to the variant's width
  unfoldable pub cut : List ℕ → List ℕ
  cut s =
      get_or s 0 0 % 2 ^ v.bits
      ∷ get_or s 1 0 % 2 ^ v.bits
      ∷ get_or s 2 0 % 2 ^ v.bits
      ∷ get_or s 3 0 % 2 ^ v.bits
      ∷ get_or s 4 0 % 2 ^ v.bits
      ∷ get_or s 5 0 % 2 ^ v.bits
      ∷ get_or s 6 0 % 2 ^ v.bits
      ∷ get_or s 7 0 % 2 ^ v.bits
      ∷ []

  -- the hash value s after the first n blocks of p
  unfoldable pub folded : List ℕ → List ℕ → ℕ → List ℕ
  folded s p zero = s
  folded s p (suc i) = compress v (cut (folded s p i)) (words_of v 16 (block_at v p i))

  -- the digest of a hash value in 48 bytes, the rest zero
  unfoldable pub digest_in48 : List ℕ → List ℕ
  digest_in48 s = digest_of v (cut s) ++ zeros (48 - v.digest)
