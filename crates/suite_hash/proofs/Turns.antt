-- Absorbing as the code does it: what completes a block, whole blocks, what is left. Once for every variant.
use Rattle.std.proofs.Common.{◌≡◌, ℕ, ◌+◌, ◌-◌, ◌*◌, ◌/◌, ◌%◌, ◌^◌, ◌<◌, ◌≤◌, min, List, length, take, drop, sym, ap, ◌∙◌, mod-lt, div-add-mod', arith, length-drop, take-append-drop, length-take-le, take_all}
use Rattle.buffer.specs.Buffer.{zeros, overwrite, after}
use Rattle.buffer.proofs.Laws.{after-fits, length-zeros}
use Rattle.fips180.specs.Variant.{Variant}
use Rattle.fips180.specs.Padding.{words_of}
use Rattle.fips180.specs.Hash.{compress}
use Rattle.fips180.specs.Rows.{cut, folded}
use Rattle.fips180.proofs.Folding.{fold_one}
use Rattle.suite_hash.specs.declared.running.Running.{Running}
use Rattle.suite_hash.specs.Running.{run, absorbed}
use Rattle.suite_hash.proofs.Sound.{Sound, positive}
use Rattle.suite_hash.proofs.Absorbing.{absorbed-append, part-absorbed, full_absorbed, blocks-absorbed, even_after, full_after}

-- a count that wraps at each step
wraps : (c k m t x : ℕ) → x ≡ k + (m + t) → (c + x) % 2 ^ 64 ≡ (((c + k) % 2 ^ 64 + m) % 2 ^ 64 + t) % 2 ^ 64
wraps c k m t x e = omega arith

-- the part of x from index k on
abbrev from : ℕ → List ℕ → List ℕ
from k x = take (length x - k) (drop k x)

from_is : (k : ℕ) (x : List ℕ) → from k x ≡ drop k x
from_is k x = take_all (length x - k) (drop k x) (simp length-drop (omega arith))

-- one block, at the front of p
pub compress_is : (v : Variant) → Sound v → (s p : List ℕ) {b : ℕ} {y : List ℕ} → 128 ≤ length p → b ≡ v.block
    → y ≡ folded v s (take b p) (length (take b p) / v.block) → y ≡ compress v (cut v s) (words_of v 16 (take v.block p))
compress_is v ok s p long es ey =
    let w = ok.within in
    ey ∙ rw es (fold_one v s (take v.block p) (positive v ok) (length-take-le v.block p (omega arith)))

module _ (v : Variant) (ok : Sound v) (h : Running) (long : length h.block ≡ 128) (small : h.count < 2 ^ 64) (x : List ℕ)
    {at b k count : ℕ} {block : List ℕ} (ea : at ≡ h.count % v.block) (es : b ≡ v.block) (ec : count ≡ (h.count + length x) % 2 ^ 64)
    (eb : block ≡ after at (take k x) h.block) (ek : k ≡ min (b - at) (length x)) where
  length-first : length (take k x) ≡ k
  length-first = length-take-le k x (omega arith)

  is_after : block ≡ overwrite (h.count % v.block) (take k x) h.block
  is_after =
      let w = ok.within in
      let l = length-first in
      let m = mod-lt h.count (positive v ok) in
      eb ∙ after-fits at (take k x) h.block (omega arith) ∙ ap (λ (i : ℕ). overwrite i (take k x) h.block) ea

  -- all of x stays in the block at hand
  pub absorb_short : at + k < b → run h.state block count ≡ absorbed v h x
  absorb_short less =
      let l : k ≡ length x = omega arith in
      let t : take k x ≡ x = take_all k x (omega arith) in
      let f = part-absorbed v ok h.state h.block x h.count small long (omega arith) in
      let d = is_after in
      rw (ec, d, t) (sym f)

  -- the block at hand is completed; whole blocks, and what is left
  pub absorb_long : {first state none tail : List ℕ} {w : ℕ} → b ≤ at + k → first ≡ compress v (cut v h.state) (words_of v 16 (take v.block block))
      → state ≡ folded v first (from k x) (length (from k x) / v.block) → w ≡ length (from k x) / v.block * v.block
      → none ≡ zeros 128 → tail ≡ after 0 (from w (from k x)) none → run state tail count ≡ absorbed v h x
  unfolding overwrite
  absorb_long {first} {state} {none} {tail} {w} full ef et ew en ez =
      let within = ok.within in
      let m = mod-lt h.count (positive v ok) in
      let lp = length-first in
      let p = take k x in
      let rest = drop k x in
      let n = length rest / v.block in
      let c1 = (h.count + length p) % 2 ^ 64 in
      let c2 = (c1 + n * v.block) % 2 ^ 64 in
      let t = drop (n * v.block) rest in
      let split = div-add-mod' (length rest) v.block in
      let less = mod-lt (length rest) (positive v ok) in
      let lr : length rest ≡ length x - k = length-drop k x in
      let lt : length t ≡ length rest % v.block = length-drop (n * v.block) rest ∙ omega arith in
      let fr : from k x ≡ rest = from_is k x in
      let s1 = compress v (cut v h.state) (words_of v 16 (take v.block (overwrite (h.count % v.block) p h.block))) in
      let a1 = full_absorbed v ok h.state h.block p h.count small long (omega arith) (omega arith) in
      let e1 : c1 % v.block ≡ 0 = full_after v ok h.count (length p) (omega arith) in
      let a2 = blocks-absorbed v ok s1 rest c1 (omega arith) e1 n (omega arith) in
      let e2 : c2 % v.block ≡ 0 = even_after v ok c1 n e1 in
      let a3 = part-absorbed v ok (folded v s1 rest n) (zeros 128) t c2 (omega arith) (length-zeros 128) (omega arith) in
      let o = is_after in
      let first-is : first ≡ s1 = ef ∙ rw o in
      let w-is : w ≡ n * v.block = rw fr at ew in
      let state-is : state ≡ folded v s1 rest n = rw (fr, first-is) at et in
      let tail_is : tail ≡ overwrite 0 t (zeros 128) =
      ez ∙ rw (fr, w-is, en, from_is (n * v.block) rest) (after-fits 0 t (zeros 128) (let z = length-zeros 128 in omega arith)) in
      let count_is : count ≡ (c2 + length t) % 2 ^ 64 = ec ∙ wraps h.count (length p) (n * v.block) (length t) (length x) (omega arith) in
      sym
      (ap (absorbed v h) (sym (take-append-drop k x))
      ∙ absorbed-append v h p rest
      ∙ ap (λ (r : Running). absorbed v r rest) a1
      ∙ ap (absorbed v (run s1 (zeros 128) c1)) (sym (take-append-drop (n * v.block) rest))
      ∙ absorbed-append v (run s1 (zeros 128) c1) (take (n * v.block) rest) t
      ∙ ap (λ (r : Running). absorbed v r t) a2
      ∙ (rw e2 at a3)
      ∙ rw (state-is, tail_is, count_is))
