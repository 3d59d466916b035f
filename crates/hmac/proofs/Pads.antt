-- Laws of HMAC's pads.
use Prim.Native.Nat.{ℕ, zero, suc, ◌+◌, ◌-◌, ◌/◌, ◌≤◌, ◌<◌, min}
use mathlib.Core.Path.{◌≡◌, refl, sym, ap, ◌∙◌}
use mathlib.Core.List.{List, [], ◌∷◌, ◌++◌, map, append-nil}
use native.Mathlib.Numerals.{add-one}
use native.Mathlib.Decide.{dec_le}
use native.Mathlib.Omega.{arith}
use lib.Bits.{bit_xor}
use lib.ListN.{length, get_or, take, drop, set, length-append, length-map, get_or-map}
use lib.Seq.{length-take-le, drop-cons, drop-set-lt, take_all, take-append-le, take-append-add, take-suc, take-suc-set}
use Rattle.buffer.specs.Buffer.{zeros, fronted, after}
use Rattle.buffer.proofs.Laws.{length-zeros, take-zeros, drop-zeros, after_front, zeros-none}
use Rattle.suite.specs.Suite.{block_length}
use Rattle.suite.proofs.Laws.{bounded}
use Rattle.fips180.specs.Rows.{folded}
use Rattle.suite_hash.specs.Variants.{variant_of}
use Rattle.suite_hash.specs.Running.{running_of}
use Rattle.suite_hash.proofs.Suites.{block-folded}
use Rattle.hmac.specs.declared.Keyed.{Keyed}
use Rattle.hmac.specs.Keyed.{keyed_of}
use Rattle.hmac.specs.Rfc2104.{key_block, xor_each, ipad, opad}

-- a key and as many zeros as a block has bytes, cut to a block
key-cut : (key : List ℕ) (b n : ℕ) → n ≡ min (length key) b → take b (key ++ zeros b) ≡ take n key ++ zeros (b - n)
key-cut key b n e = go (dec_le (length key) b)
  where
    go : Dec (length key ≤ b) → take b (key ++ zeros b) ≡ take n key ++ zeros (b - n)
    go (yes h) =
        let t : take n key ≡ key = take_all n key (omega arith) in
        let m : b ≡ length key + (b - n) = omega arith in
        rw t (ap (λ (i : ℕ). take i (key ++ zeros b)) m ∙ take-append-add key (zeros b) (b - n) ∙ ap (λ (l : List ℕ). key ++ l) (take-zeros b (b - n) (omega arith)))
    go (no h) =
        let m : n ≡ b = omega arith in
        let z : b - b ≡ 0 = omega arith in
        take-append-le b key (zeros b) (omega arith) ∙ rw (m, z, zeros-none) (sym (append-nil (take b key)))

-- the key in a block of zeros
key_block_is : (suite : ℕ) (key : List ℕ) {b n : ℕ} {none block : List ℕ} → b ≡ block_length suite → n ≡ min (length key) b
    → none ≡ zeros 128 → block ≡ after 0 (take n key) none → take (block_length suite) block ≡ key_block suite key
unfolding key_block fronted
key_block_is suite key {b} {n} {none} {block} eb en ez ek =
    let w = (bounded suite).block in
    let z : length (zeros 128) ≡ 128 = length-zeros 128 in
    let l : length (take n key) ≡ n = length-take-le n key (omega arith) in
    let e : block ≡ take n key ++ zeros (128 - n) = ek ∙ rw (ez, after_front (take n key) (zeros 128) (omega arith), l, drop-zeros 128 n) in
    let m : block_length suite ≡ length (take n key) + (block_length suite - n) = omega arith in
    let left : take (block_length suite) (take n key ++ zeros (128 - n)) ≡ take n key ++ zeros (block_length suite - n) =
    ap (λ (i : ℕ). take i (take n key ++ zeros (128 - n))) m
    ∙ take-append-add (take n key) (zeros (128 - n)) (block_length suite - n)
    ∙ ap (λ (l : List ℕ). take n key ++ l) (take-zeros (128 - n) (block_length suite - n) (omega arith)) in
    ap (take (block_length suite)) e ∙ left ∙ sym (key-cut key (block_length suite) n (eb_is en))
  where
    eb_is : n ≡ min (length key) b → n ≡ min (length key) (block_length suite)
    eb_is h = h ∙ ap (min (length key)) eb

-- a byte of a list that is XORed
xor-turn : (c : ℕ) (xs ys : List ℕ) {i : ℕ} → i < length xs → length ys ≡ length xs → take i ys ≡ take i (xor_each c xs)
    → take (i + 1) (set ys i (bit_xor (get_or xs i 0) c)) ≡ take (i + 1) (xor_each c xs)
unfolding xor_each
xor-turn c xs ys {i} h l e =
    let f : ℕ → ℕ = λ (b : ℕ). bit_xor b c in
    let lm : length (map f xs) ≡ length xs = length-map xs f in
    let a : take (suc i) (set ys i (f (get_or xs i 0))) ≡ take i ys ++ (f (get_or xs i 0) ∷ []) = take-suc-set ys i (f (get_or xs i 0)) (omega arith) in
    let b : take (suc i) (map f xs) ≡ take i (map f xs) ++ (get_or (map f xs) i (f 0) ∷ []) = take-suc (map f xs) i (f 0) (omega arith) in
    let g : get_or (map f xs) i (f 0) ≡ f (get_or xs i 0) = get_or-map f xs i 0 in
    rw add-one (a ∙ ap (λ (l : List ℕ). l ++ (f (get_or xs i 0) ∷ [])) e ∙ ap (λ (x : ℕ). take i (map f xs) ++ (x ∷ [])) (sym g) ∙ sym b)

-- the same in place
pub xor_in_place : (c : ℕ) (xs ys : List ℕ) {i : ℕ} → i < length xs → length ys ≡ length xs → take i ys ≡ take i (xor_each c xs) → drop i ys ≡ drop i xs
    → (take (i + 1) (set ys i (bit_xor (get_or ys i 0) c)) ≡ take (i + 1) (xor_each c xs)) × (drop (i + 1) (set ys i (bit_xor (get_or ys i 0) c)) ≡ drop (i + 1) xs)
xor_in_place c xs ys {i} h l e d =
    let dx : drop i xs ≡ get_or xs i 0 ∷ drop (suc i) xs = drop-cons xs i 0 h in
    let dy : drop i ys ≡ get_or ys i 0 ∷ drop (suc i) ys = drop-cons ys i 0 (omega arith) in
    let g : get_or ys i 0 ≡ get_or xs i 0 = cc in
    let t : drop (suc i) ys ≡ drop (suc i) xs = cc in
    (rw g (xor-turn c xs ys h l e), rw add-one (drop-set-lt (suc i) ys i (bit_xor (get_or ys i 0) c) (omega arith) ∙ t))

take-xor : (c n : ℕ) (xs : List ℕ) → take n (xor_each c xs) ≡ xor_each c (take n xs)
unfolding xor_each
take-xor c zero xs = refl
take-xor c (suc n) [] = refl
take-xor c (suc n) (x ∷ xs) = ap (λ (l : List ℕ). bit_xor x c ∷ l) (take-xor c n xs)

pub length-xor : (c : ℕ) (xs : List ℕ) → length (xor_each c xs) ≡ length xs
unfolding xor_each
length-xor c xs = length-map xs (λ (b : ℕ). bit_xor b c)

pub length-key_block : (suite : ℕ) (key : List ℕ) → length (key_block suite key) ≡ block_length suite
unfolding key_block
length-key_block suite key = length-take-le (block_length suite) (key ++ zeros (block_length suite)) (omega (arith, length-append key (zeros (block_length suite)), length-zeros (block_length suite)))

module _ (suite : ℕ) where
  -- the key in a block of zeros, each byte XORed
  pub pad_is : (c : ℕ) (key : List ℕ) {b n : ℕ} {none block pad : List ℕ} → b ≡ block_length suite → n ≡ min (length key) b
      → none ≡ zeros 128 → block ≡ after 0 (take n key) none → pad ≡ xor_each c block → take (block_length suite) pad ≡ xor_each c (key_block suite key)
  pad_is c key {block = block} eb en ez ek ep =
      ap (take (block_length suite)) ep ∙ take-xor c (block_length suite) block ∙ ap (xor_each c) (key_block_is suite key eb en ez ek)

  -- the hash value after a pad
  pad_folded : (c : ℕ) (key pad : List ℕ) {b : ℕ} {s y : List ℕ} → b ≡ block_length suite → take (block_length suite) pad ≡ xor_each c (key_block suite key)
      → s ≡ (variant_of suite).H0 → y ≡ folded (variant_of suite) s (take b pad) (length (take b pad) / (variant_of suite).block)
      → y ≡ (running_of (variant_of suite) (xor_each c (key_block suite key))).state
  pad_folded c key pad eb ep es ey =
      block-folded suite (xor_each c (key_block suite key)) (length-xor c (key_block suite key) ∙ length-key_block suite key) es (rw (eb, ep) at ey)

  -- both pads
  pub keyed_is : (key p q : List ℕ) {b : ℕ} {i o x y : List ℕ} → b ≡ block_length suite → i ≡ (variant_of suite).H0 → o ≡ (variant_of suite).H0
      → take (block_length suite) p ≡ xor_each 0x36 (key_block suite key) → x ≡ folded (variant_of suite) i (take b p) (length (take b p) / (variant_of suite).block)
      → take (block_length suite) q ≡ xor_each 0x5c (key_block suite key) → y ≡ folded (variant_of suite) o (take b q) (length (take b q) / (variant_of suite).block)
      → ◌≡◌ {A = Keyed} (record { inner = x; outer = y }) (keyed_of suite key)
  unfolding ipad opad keyed_of
  keyed_is key p q eb ei eo ep ex eq ey =
      let a = pad_folded 0x36 key p eb ep ei ex in
      let b = pad_folded 0x5c key q eb eq eo ey in
      rw (a, b)

  pub length-ipad : (key : List ℕ) → length (ipad suite key) ≡ block_length suite
  unfolding ipad
  length-ipad key = length-xor 0x36 (key_block suite key) ∙ length-key_block suite key

  pub length-opad : (key : List ℕ) → length (opad suite key) ≡ block_length suite
  unfolding opad
  length-opad key = length-xor 0x5c (key_block suite key) ∙ length-key_block suite key
