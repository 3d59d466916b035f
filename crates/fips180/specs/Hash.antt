-- FIPS 180-4, section 6: the hash computation.
use Rattle.std.specs.Prelude.{ℕ, zero, suc, ◌+◌, List, [], ◌∷◌, ◌++◌, length, get_or, take}
use Rattle.fips180.specs.Words.{plus, ch, maj, bytes_of}
use Rattle.fips180.specs.Variant.{Variant, Σ0, Σ1, σ0, σ1}
use Rattle.fips180.specs.Padding.{padded, blocks, block_at, words_of}

module _ (v : Variant) where
  -- 6.2.2, step 1: the word of the message schedule that comes 16, 15, 7 and 2 words after these
  unfoldable pub next_word : ℕ → ℕ → ℕ → ℕ → ℕ
  next_word w16 w15 w7 w2 = plus v.bits (plus v.bits (plus v.bits (σ1 v w2) w7) (σ0 v w15)) w16

  -- the message schedule of the 16 words m, n words on, and its word t
  unfoldable pub schedule : List ℕ → ℕ → List ℕ
  schedule m zero = m
  schedule m (suc n) =
      let ws = schedule m n in
      ws ++ (next_word (get_or ws n 0) (get_or ws (n + 1) 0) (get_or ws (n + 9) 0) (get_or ws (n + 14) 0) ∷ [])

  unfoldable pub W : List ℕ → ℕ → ℕ
  W m t = get_or (schedule m t) t 0

  -- step 3: one round, on the list of a to h
  unfoldable pub t1 : ℕ → ℕ → ℕ → ℕ → ℕ → ℕ → ℕ
  t1 e f g h k w = plus v.bits (plus v.bits (plus v.bits (plus v.bits h (Σ1 v e)) (ch v.bits e f g)) k) w

  unfoldable pub t2 : ℕ → ℕ → ℕ → ℕ
  t2 a b c = plus v.bits (Σ0 v a) (maj a b c)

  unfoldable pub round : List ℕ → ℕ → ℕ → List ℕ
  round s k w =
      let a = get_or s 0 0 in
      let b = get_or s 1 0 in
      let c = get_or s 2 0 in
      let d = get_or s 3 0 in
      let e = get_or s 4 0 in
      let f = get_or s 5 0 in
      let g = get_or s 6 0 in
      let x = t1 e f g (get_or s 7 0) k w in
      plus v.bits x (t2 a b c) ∷ a ∷ b ∷ c ∷ plus v.bits d x ∷ e ∷ f ∷ g ∷ []

  -- the first t rounds
  unfoldable pub rounds : List ℕ → List ℕ → ℕ → List ℕ
  rounds s m zero = s
  rounds s m (suc t) = round (rounds s m t) (get_or v.K t 0) (W m t)

  -- step 4: the sums, word by word
  unfoldable pub sums : List ℕ → List ℕ → List ℕ
  sums s x =
      plus v.bits (get_or s 0 0) (get_or x 0 0)
      ∷ plus v.bits (get_or s 1 0) (get_or x 1 0)
      ∷ plus v.bits (get_or s 2 0) (get_or x 2 0)
      ∷ plus v.bits (get_or s 3 0) (get_or x 3 0)
      ∷ plus v.bits (get_or s 4 0) (get_or x 4 0)
      ∷ plus v.bits (get_or s 5 0) (get_or x 5 0)
      ∷ plus v.bits (get_or s 6 0) (get_or x 6 0)
      ∷ plus v.bits (get_or s 7 0) (get_or x 7 0)
      ∷ []

  -- the hash value after a block of 16 words, from the one before it
  unfoldable pub compress : List ℕ → List ℕ → List ℕ
  compress s m = sums s (rounds s m v.rounds)

  -- the hash value after i blocks of a padded message
  unfoldable pub hash_value : List ℕ → ℕ → List ℕ
  hash_value p zero = v.H0
  hash_value p (suc i) = compress (hash_value p i) (words_of v 16 (block_at v p i))

  -- the bytes of a hash value, as many as the digest has
  unfoldable pub digest_of : List ℕ → List ℕ
  digest_of s =
      take v.digest
      (bytes_of v.bytes (get_or s 0 0) ++ bytes_of v.bytes (get_or s 1 0) ++ bytes_of v.bytes (get_or s 2 0)
      ++ bytes_of v.bytes (get_or s 3 0) ++ bytes_of v.bytes (get_or s 4 0) ++ bytes_of v.bytes (get_or s 5 0)
      ++ bytes_of v.bytes (get_or s 6 0) ++ bytes_of v.bytes (get_or s 7 0))

  -- the digest of a message
  unfoldable pub sha2 : List ℕ → List ℕ
  sha2 m = digest_of (hash_value (padded v m) (blocks v (length m)))
