-- The end of a message as the code lays it out: once for every variant.
use Rattle.std.proofs.Common.{◌≡◌, ℕ, suc, ◌+◌, ◌-◌, ◌*◌, ◌/◌, ◌%◌, ◌^◌, ◌<◌, ◌≤◌, List, [], ◌∷◌, ◌++◌, length, take, drop, set, sym, ap, ◌∙◌, append_assoc, append-nil, mod-lt, add-one, arith, length-append, length-take-le, take_all, take-suc-set, take_at}
use lib.Seq.{take-append-add, set_at}
use Rattle.std.specs.Int.{bytes_high_first}
use Rattle.buffer.specs.Buffer.{zeros, overwrite, after}
use Rattle.buffer.proofs.Laws.{after-fits, length-zeros, take-zeros, zeros-none, zeros-more, zeros-append}
use Rattle.fips180.specs.Words.{bytes_of}
use Rattle.fips180.specs.Variant.{Variant}
use Rattle.fips180.specs.Padding.{zeros_for, padding, words_of}
use Rattle.fips180.specs.Hash.{compress}
use Rattle.fips180.specs.Rows.{cut}
use Rattle.fips180.proofs.Words.{be_bytes, bytes_wide}
use Rattle.fips180.proofs.Lengths.{length-bytes_of}
use Rattle.suite_hash.specs.declared.running.Running.{Running}
use Rattle.suite_hash.specs.Running.{absorbed}
use Rattle.suite_hash.proofs.Sound.{Sound, positive}
use Rattle.suite_hash.proofs.Absorbing.{absorbed-append, full_absorbed, block-absorbed, full_after}

-- no zero behind the first at bytes, and one more
pub end_start : (held : List ℕ) (at : ℕ) → take at held ≡ take at held ++ zeros (at - at)
end_start held at = let z : at - at ≡ 0 = omega arith in rw (z, zeros-none) (sym (append-nil (take at held)))

pub end_turn : (held block : List ℕ) {at i : ℕ} → at ≤ i → i < length block → take i block ≡ take at held ++ zeros (i - at)
    → take (i + 1) (set block i 0) ≡ take at held ++ zeros (i + 1 - at)
end_turn held block {at} {i} h l e =
    let n : i + 1 - at ≡ (i - at) + 1 = omega arith in
    let t : take (i + 1) (set block i 0) ≡ take i block ++ (0 ∷ []) = rw add-one (take-suc-set block i 0 l) in
    let z : zeros (i + 1 - at) ≡ zeros (i - at) ++ (0 ∷ []) = rw (n, ← zeros-append (i - at) 1, zeros-more 0, zeros-none) in
    t ∙ ap (λ (x : List ℕ). x ++ (0 ∷ [])) e ∙ append_assoc (take at held) (zeros (i - at)) (0 ∷ []) ∙ ap (λ (x : List ℕ). take at held ++ x) (sym z)

-- the bytes held, the byte 80 and zeros
pub end_is : (held block : List ℕ) {at i : ℕ} → length held ≡ 128 → length block ≡ 128 → at < 128 → i ≡ 128
    → take i block ≡ take at held ++ zeros (i - at) → set block at 0x80 ≡ take at held ++ 0x80 ∷ zeros (127 - at)
end_is held block {at} {i} long wide less all eb =
    let l : length (take at held) ≡ at = length-take-le at held (omega arith) in
    let n : i - at ≡ suc (127 - at) = omega arith in
    let e : block ≡ take at held ++ 0 ∷ zeros (127 - at) = sym (take_all i block (omega arith)) ∙ eb ∙ rw (n, zeros-more (127 - at)) in
    rw e (set_at (take at held) 0 (zeros (127 - at)) 0x80 at l)

-- the first b bytes of a block with xs written over it up to there
front_over : (at b : ℕ) (xs ys : List ℕ) → at + length xs ≡ b → b ≤ length ys → take b (overwrite at xs ys) ≡ take at ys ++ xs
unfolding overwrite
front_over at b xs ys e h =
    let l : length (take at ys) ≡ at = length-take-le at ys (omega arith) in
    let m : length (take at ys ++ xs) ≡ b = length-append (take at ys) xs ∙ omega arith in
    ap (take b) (sym (append_assoc (take at ys) xs (drop (at + length xs) ys))) ∙ take_at (take at ys ++ xs) (drop (at + length xs) ys) b m

-- the first m bytes of the bytes held, the byte 80 and zeros
front_ended : (held : List ℕ) (at m k : ℕ) → length held ≡ 128 → m ≡ at + suc k → m ≤ 128 → take m (take at held ++ 0x80 ∷ zeros (127 - at)) ≡ take at held ++ 0x80 ∷ zeros k
front_ended held at m k long e h =
    let l : length (take at held) ≡ at = length-take-le at held (omega arith) in
    let n : m ≡ length (take at held) + suc k = omega arith in
    rw (n, take-append-add (take at held) (0x80 ∷ zeros (127 - at)) (suc k), take-zeros (127 - at) k (omega arith))

-- the length in bits, in eight bytes
pub bits_are : {bits : List ℕ} {x y : ℕ} → bits ≡ bytes_high_first 8 x → x ≡ y → bits ≡ bytes_of 8 y
bits_are e h = e ∙ be_bytes 8 _ ∙ ap (bytes_of 8) h

module _ (v : Variant) (ok : Sound v) where
  -- the last block, with the length in bits at its end
  pub last_is : (s ended bits : List ℕ) {b : ℕ} {block y : List ℕ} → length ended ≡ 128 → length bits ≡ 8 → b ≡ v.block
      → block ≡ after (b - 8) bits ended → y ≡ compress v (cut v s) (words_of v 16 (take v.block block))
      → y ≡ compress v (cut v s) (words_of v 16 (take v.block (overwrite (v.block - 8) bits ended)))
  last_is s ended bits {b} {block} {y} long eight es eb ey =
      let some = ok.some in
      let w = ok.within in
      let a : block ≡ overwrite (v.block - 8) bits ended = (rw es at eb) ∙ after-fits (v.block - 8) bits ended (omega arith) in
      ey ∙ rw a

  module _ (h : Running) (long : length h.block ≡ 128) (small : h.count < 2 ^ 64) {at b : ℕ} {bits block : List ℕ}
      (ea : at ≡ h.count % v.block) (es : b ≡ v.block) (eb : bits ≡ bytes_of 8 (h.count % 2 ^ 61 * 8))
      (ed : block ≡ take at h.block ++ 0x80 ∷ zeros (127 - at)) where
    n : ℕ
    n = h.count % 2 ^ 61

    at_is : n % v.block ≡ at
    unfolding n
    at_is = ok.place h.count ∙ sym ea

    eight : length bits ≡ 8
    eight = ap length eb ∙ length-bytes_of 8 (h.count % 2 ^ 61 * 8)

    length_ended : (at : ℕ) → at < 128 → length (take at h.block ++ 0x80 ∷ zeros (127 - at)) ≡ 128
    length_ended at less =
        let l : length (take at h.block) ≡ at = length-take-le at h.block (omega arith) in
        let z : length (zeros (127 - at)) ≡ 127 - at = length-zeros (127 - at) in
        length-append (take at h.block) (0x80 ∷ zeros (127 - at)) ∙ omega arith

    -- the padding, with the length in eight bytes
    padding_is : (k : ℕ) → k ≡ zeros_for v n + (v.field - 8) → padding v n ≡ 0x80 ∷ zeros k ++ bits
    unfolding padding n
    padding_is k e =
        let w = ok.wide in
        let f : v.field ≡ (v.field - 8) + 8 = omega arith in
        let wide = bytes_wide (v.field - 8) 8 (n * 8) (omega arith) in
        let z = zeros_for v n in
        ap (λ (l : List ℕ). 0x80 ∷ (zeros z ++ l))
        (ap (λ (i : ℕ). bytes_of i (n * 8)) f ∙ wide)
        ∙ ap (λ (l : List ℕ). 0x80 ∷ l) (sym (append_assoc (zeros z) (zeros (v.field - 8)) (bytes_of 8 (n * 8))))
        ∙ rw (zeros-append z (v.field - 8), ← e, ← eb)

    -- where it completes the block at hand
    pub pad_short : {r : List ℕ} → at + 1 + b / 8 ≤ b
        → r ≡ compress v (cut v h.state) (words_of v 16 (take v.block (overwrite (v.block - 8) bits block)))
        → r ≡ (absorbed v h (padding v (h.count % 2 ^ 61))).state
    unfolding n
    pad_short {r} fits er =
        let some = ok.some in
        let within = ok.within in
        let w = ok.wide in
        let f = ok.field in
        let place = at_is in
        let l8 = eight in
        let hb = h.block in
        let k = v.block - 9 - at in
        let zf = ok.fits n (omega arith) in
        let p : padding v n ≡ 0x80 ∷ zeros k ++ bits = padding_is k (omega arith) in
        let lk : length (zeros k) ≡ k = length-zeros k in
        let lp : length (0x80 ∷ zeros k ++ bits) ≡ v.block - at = length-append (0x80 ∷ zeros k) bits ∙ omega arith in
        let ln : length (padding v n) ≡ v.block - at = ap length p ∙ lp in
        let a = full_absorbed v ok h.state hb (padding v n) h.count small long (omega arith) (omega arith) in
        let left = front_over at v.block (padding v n) hb (omega arith) (omega arith) in
        let lb : length block ≡ 128 = ap length ed ∙ length_ended at (omega arith) in
        let right = front_over (v.block - 8) v.block bits block (omega arith) (omega arith) in
        let fe : take (v.block - 8) block ≡ take at hb ++ 0x80 ∷ zeros k = rw ed (front_ended hb at (v.block - 8) k long (omega arith) (omega arith)) in
        let same : take v.block (overwrite (v.block - 8) bits block) ≡ take v.block (overwrite at (padding v n) hb) =
        right ∙ rw fe (append_assoc (take at hb) (0x80 ∷ zeros k) bits) ∙ ap (λ (l : List ℕ). take at hb ++ l) (sym p) ∙ sym left in
        er
        ∙ ap (λ (x : List ℕ). compress v (cut v h.state) (words_of v 16 x)) (same ∙ ap (λ (i : ℕ). take v.block (overwrite i (padding v n) hb)) ea)
        ∙ sym (ap (λ (x : Running). x.state) a)

    -- where it takes one block more
    pub pad_long : {next none r : List ℕ} → b < at + 1 + b / 8 → next ≡ compress v (cut v h.state) (words_of v 16 (take v.block block)) → none ≡ zeros 128
        → r ≡ compress v (cut v next) (words_of v 16 (take v.block (overwrite (v.block - 8) bits none)))
        → r ≡ (absorbed v h (padding v (h.count % 2 ^ 61))).state
    unfolding n
    pad_long {next} {none} {r} over en ez er =
        let some = ok.some in
        let within = ok.within in
        let w = ok.wide in
        let f = ok.field in
        let place = at_is in
        let m = mod-lt h.count (positive v ok) in
        let l8 = eight in
        let hb = h.block in
        let i = v.block - 1 - at in
        let j = v.block - 8 in
        let zf = ok.spills n (omega arith) in
        let first : List ℕ = 0x80 ∷ zeros i in
        let second : List ℕ = zeros j ++ bits in
        let p : padding v n ≡ first ++ second =
        padding_is (i + j) (omega arith)
        ∙ ap (λ (l : List ℕ). 0x80 ∷ l) (rw (← zeros-append i j) (append_assoc (zeros i) (zeros j) bits)) in
        let li : length (zeros i) ≡ i = length-zeros i in
        let lj : length (zeros j) ≡ j = length-zeros j in
        let l1 : length first ≡ v.block - at = omega arith in
        let l2 : length second ≡ v.block = length-append (zeros j) bits ∙ omega arith in
        let a1 = full_absorbed v ok h.state hb first h.count small long (omega arith) (omega arith) in
        let s1 = compress v (cut v h.state) (words_of v 16 (take v.block (overwrite (h.count % v.block) first hb))) in
        let c1 = (h.count + length first) % 2 ^ 64 in
        let a2 = block-absorbed v ok s1 (zeros 128) second c1 (omega arith) (length-zeros 128) (full_after v ok h.count (length first) (omega arith)) l2 in
        let left = front_over at v.block first hb (omega arith) (omega arith) in
        let fe : take v.block block ≡ take at hb ++ first = rw ed (front_ended hb at v.block i long (omega arith) within) in
        let next_is : next ≡ s1 =
        en
        ∙ ap (λ (x : List ℕ). compress v (cut v h.state) (words_of v 16 x))
        (fe ∙ sym left ∙ ap (λ (q : ℕ). take v.block (overwrite q first hb)) ea) in
        let z : length (zeros 128) ≡ 128 = length-zeros 128 in
        let right : take v.block (overwrite j bits none) ≡ second =
        rw ez (front_over j v.block bits (zeros 128) (omega arith) (omega arith) ∙ rw (take-zeros 128 j (omega arith))) in
        er
        ∙ rw (next_is, right)
        (sym
        (ap (λ (x : List ℕ). (absorbed v h x).state) p
        ∙ ap (λ (x : Running). x.state) (absorbed-append v h first second ∙ ap (λ (x : Running). absorbed v x second) a1 ∙ a2)))
