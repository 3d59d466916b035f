-- The lower calls: what a decision of 0 says, and what the calls answer.
use Prim.Native.Nat.{ℕ, ◌*◌, ◌≤◌}
use mathlib.Core.Path.{◌≡◌, sym, ap, ◌∙◌}
use mathlib.Core.Bool.{not, ◌&&◌, ◌||◌}
use mathlib.Core.List.{List}
use native.Mathlib.Omega.{arith}
use lib.ListN.{length, take}
use lib.Seq.{take_all}
use lib.Dec.{eqb, leb, ltb}
use borrow.Author.Tests.{ltb-false, leb-true, not-false}
use Rattle.buffer.specs.Buffer.{placed, fronted, after}
use Rattle.buffer.proofs.Laws.{after_front, take-placed}
use Rattle.refusal.proofs.Laws.{passed, or-false, and-true}
use Rattle.suite.specs.Suite.{known, hash_length, block_length, max_label}
use Rattle.suite_hash.specs.Hash.{hash, max_input}
use Rattle.suite_hash.proofs.Whole.{length-hash}
use Rattle.hkdf.specs.Rfc8446.{expand_label, derive_secret}
use Rattle.hkdf.specs.Refusals.{mac_number, expand_number, expand_label_number, derive_secret_number, askable, labelled, max_message, max_info, max_context}
use Rattle.hkdf.proofs.Values.{length-expand}

-- HMAC and Extract
module _ (suite key message room : ℕ) where
  pub mac_fits : 0 ≡ mac_number suite key message room → (message ≤ max_message) × (hash_length suite ≤ room)
  unfolding mac_number
  mac_fits h =
      let a = passed (not (known suite)) 2 _ (λ i. omega arith) (sym h) in
      let b = passed (ltb (block_length suite) key) 4 _ (λ i. omega arith) a.1 in
      let c = passed (ltb max_message message) 9 _ (λ i. omega arith) b.1 in
      let d = passed (ltb room (hash_length suite)) 11 0 (λ i. omega arith) c.1 in
      (ltb-false max_message message c.0, ltb-false room (hash_length suite) d.0)

-- H bytes at the front
pub written : (suite h : ℕ) (w out : List ℕ) {t after' : List ℕ} → h ≡ hash_length suite → length w ≡ hash_length suite → hash_length suite ≤ length out
    → t ≡ placed w → after' ≡ after 0 (take h t) out → after' ≡ fronted w out
written suite h w out {t} {after'} eh lw room et ea =
    let e : take h t ≡ w = ap (take h) et ∙ take-placed h w (lw ∙ sym eh) in
    ea ∙ rw e (after_front w out (omega arith))

-- Expand
module _ (suite secret info asked room : ℕ) where
  pub expand-fits : 0 ≡ expand_number suite secret info asked room → (info ≤ max_info) × (asked ≤ 255 * hash_length suite) × (asked ≤ room)
  unfolding expand_number
  expand-fits h =
      let a = passed (not (known suite)) 2 _ (λ i. omega arith) (sym h) in
      let b = passed (not (leb (hash_length suite) secret && leb secret (block_length suite))) 4 _ (λ i. omega arith) a.1 in
      let c = passed (ltb max_info info || not (askable suite asked)) 10 _ (λ i. omega arith) b.1 in
      let d = passed (ltb room asked) 11 0 (λ i. omega arith) c.1 in
      let o = or-false (ltb max_info info) (not (askable suite asked)) c.0 in
      let p = and-true (leb 1 asked) (leb asked (255 * hash_length suite)) (not-false (askable suite asked) o.1) in
      (ltb-false max_info info o.0, leb-true asked (255 * hash_length suite) p.1, ltb-false room asked d.0)

-- Expand-Label
module _ (suite secret label context asked room : ℕ) where
  pub label-fits : 0 ≡ expand_label_number suite secret label context asked room → (label ≤ max_label) × (context ≤ max_context) × (asked ≤ 255 * hash_length suite) × (asked ≤ room)
  unfolding expand_label_number
  label-fits h =
      let a = passed (not (known suite)) 2 _ (λ i. omega arith) (sym h) in
      let b = passed (not (eqb secret (hash_length suite))) 4 _ (λ i. omega arith) a.1 in
      let c = passed (not (labelled label) || (ltb max_context context || not (askable suite asked))) 10 _ (λ i. omega arith) b.1 in
      let d = passed (ltb room asked) 11 0 (λ i. omega arith) c.1 in
      let o = or-false (not (labelled label)) (ltb max_context context || not (askable suite asked)) c.0 in
      let q = or-false (ltb max_context context) (not (askable suite asked)) o.1 in
      let l = and-true (leb 1 label) (leb label max_label) (not-false (labelled label) o.0) in
      let p = and-true (leb 1 asked) (leb asked (255 * hash_length suite)) (not-false (askable suite asked) q.1) in
      (leb-true label max_label l.1, ltb-false max_context context q.0, leb-true asked (255 * hash_length suite) p.1, ltb-false room asked d.0)

-- Derive-Secret
module _ (suite secret label messages room : ℕ) where
  pub derive_fits : 0 ≡ derive_secret_number suite secret label messages room → (label ≤ max_label) × (messages ≤ max_input) × (hash_length suite ≤ room)
  unfolding derive_secret_number
  derive_fits h =
      let a = passed (not (known suite)) 2 _ (λ i. omega arith) (sym h) in
      let b = passed (not (eqb secret (hash_length suite))) 4 _ (λ i. omega arith) a.1 in
      let c = passed (ltb max_input messages) 9 _ (λ i. omega arith) b.1 in
      let d = passed (not (labelled label)) 10 _ (λ i. omega arith) c.1 in
      let e = passed (ltb room (hash_length suite)) 11 0 (λ i. omega arith) d.1 in
      let l = and-true (leb 1 label) (leb label max_label) (not-false (labelled label) d.0) in
      (leb-true label max_label l.1, ltb-false max_input messages c.0, ltb-false room (hash_length suite) e.0)

pub length-expand_label : (suite : ℕ) (secret label context : List ℕ) (asked : ℕ) → length (expand_label suite secret label context asked) ≡ asked
unfolding expand_label
length-expand_label suite secret label context asked = length-expand suite secret _ asked

-- a digest of what is within the limit
pub uncut : (suite : ℕ) (m : List ℕ) {d : List ℕ} → length m ≤ max_input → d ≡ placed (hash suite (take max_input m)) → d ≡ placed (hash suite m)
uncut suite m h e = e ∙ ap (λ (x : List ℕ). placed (hash suite x)) (take_all max_input m h)

-- what the code of Derive-Secret leaves in the output
pub derive_is : (suite h : ℕ) (secret label messages out : List ℕ) {d after' : List ℕ} → h ≡ hash_length suite → d ≡ placed (hash suite messages)
    → after' ≡ fronted (expand_label suite secret label (take h d) h) out → after' ≡ fronted (derive_secret suite secret label messages) out
unfolding derive_secret
derive_is suite h secret label messages out {d} eh ed ea =
    let c : take h d ≡ hash suite messages = ap (take h) ed ∙ take-placed h (hash suite messages) (length-hash suite messages ∙ sym eh) in
    ea ∙ rw c (ap (λ (n : ℕ). fronted (expand_label suite secret label (hash suite messages) n) out) eh)

pub length-derive_secret : (suite : ℕ) (secret label messages : List ℕ) → length (derive_secret suite secret label messages) ≡ hash_length suite
unfolding derive_secret
length-derive_secret suite secret label messages = length-expand_label suite secret label (hash suite messages) (hash_length suite)
