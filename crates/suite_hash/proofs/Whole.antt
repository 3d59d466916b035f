-- The call that hashes a whole input: refused and accepted.
use Rattle.std.proofs.Common.{◌≡◌, ℕ, ◌^◌, ◌<◌, ◌≤◌, min, not, ltb, List, length, take, sym, refl, Ok, ap, ◌∙◌, arith, length-take, take_all, ltb-false}
use Rattle.buffer.specs.Buffer.{placed, after}
use Rattle.buffer.proofs.Laws.{after_front, take-placed, take_least}
use Rattle.refusal.specs.Answered.{Answered}
use Rattle.refusal.proofs.Laws.{passed, answered-ok}
use Rattle.suite.specs.Suite.{known, hash_length}
use Rattle.fips180.proofs.Lengths.{length-sha2}
use Rattle.suite_hash.specs.declared.running.Running.{Running}
use Rattle.suite_hash.specs.Variants.{variant_of}
use Rattle.suite_hash.specs.Running.{start, absorbed, finished}
use Rattle.suite_hash.specs.Hash.{hash, hash_number, max_input}
use Rattle.suite_hash.proofs.Sound.{sound, hash_len}
use Rattle.suite_hash.proofs.Message.{running_after, running_finished}

pub length-hash : (suite : ℕ) (m : List ℕ) → length (hash suite m) ≡ hash_length suite
unfolding hash
length-hash suite m = length-sha2 (variant_of suite) m (sound suite).enough ∙ sym (hash_len suite)

-- the digest by way of the running hash
pub digest_is : (suite : ℕ) (m : List ℕ) {s a : Running} {d : List ℕ} → length m < 2 ^ 61 → s ≡ start (variant_of suite)
    → a ≡ absorbed (variant_of suite) s m → d ≡ finished (variant_of suite) a → d ≡ placed (hash suite m)
unfolding hash
digest_is suite m small es ea ed =
    let v = variant_of suite in
    let e = running_after v (sound suite) m (omega arith) in
    ed ∙ ap (finished v) (ea ∙ ap (λ (r : Running). absorbed v r m) es ∙ e) ∙ running_finished v (sound suite) m small

-- the same, of an input that is cut at the limit
pub cut_digest_is : (suite : ℕ) (m : List ℕ) {n : ℕ} {s a : Running} {d : List ℕ} → n ≡ min max_input (length m)
    → s ≡ start (variant_of suite) → a ≡ absorbed (variant_of suite) s (take n m) → d ≡ finished (variant_of suite) a
    → d ≡ placed (hash suite (take max_input m))
cut_digest_is suite m {n} en es ea ed =
    let t : take n m ≡ take max_input m = ap (λ (k : ℕ). take k m) en ∙ take_least max_input m in
    let l : length (take max_input m) < 2 ^ 61 = simp length-take (omega arith) in
    digest_is suite (take max_input m) l es (rw t at ea) ed

module _ (suite : ℕ) (input out : List ℕ) where
  abbrev n : ℕ
  n = hash_number suite (length input) (length out)

  fits : n ≡ 0 → (length input ≤ max_input) × (hash_length suite ≤ length out)
  unfolding hash_number
  fits e =
      let a = passed (not (known suite)) 2 _ (λ z. omega arith) e in
      let b = passed (ltb max_input (length input)) 9 _ (λ z. omega arith) a.1 in
      let c = passed (ltb (length out) (hash_length suite)) 11 0 (λ z. omega arith) b.1 in
      (ltb-false max_input (length input) b.0, ltb-false (length out) (hash_length suite) c.0)

  pub hash-done : {h : ℕ} {d after' : List ℕ} → 0 ≡ n → h ≡ hash_length suite → d ≡ placed (hash suite (take max_input input))
      → after' ≡ after 0 (take h d) out → Answered n (hash suite input) out (Ok h) after'
  hash-done {h} {d} e eh ed eo =
      let f = fits (sym e) in
      let l = length-hash suite input in
      let c : take max_input input ≡ input = take_all max_input input (omega arith) in
      let w : take h d ≡ hash suite input = ap (take h) (rw c at ed) ∙ take-placed h (hash suite input) (l ∙ sym eh) in
      answered-ok (hash suite input) out e refl (eh ∙ sym l) (eo ∙ rw w (after_front (hash suite input) out (omega arith)))
