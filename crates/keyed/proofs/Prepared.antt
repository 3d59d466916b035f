-- Laws of the first block under a prepared key: what the code makes of any, and what of a key's own is Extract and Expand-Label.
use Prim.Native.Nat.{ℕ, ◌+◌, ◌-◌, ◌/◌, ◌%◌, ◌≤◌, min}
use mathlib.Core.Path.{◌≡◌, refl, sym, ap, ◌∙◌}
use mathlib.Core.List.{List, [], ◌∷◌, ◌++◌, append-nil}
use native.Mathlib.Nat.{div-eq_of_lt-le}
use native.Mathlib.Omega.{arith}
use lib.ListN.{length, take, length-append, length-take}
use lib.Seq.{length-take-le, take_all}
use Rattle.buffer.specs.Buffer.{zeros, placed}
use Rattle.buffer.proofs.Laws.{take_least, placed_is}
use Rattle.suite.specs.Suite.{hash_length, block_length}
use Rattle.suite_hash.specs.declared.running.Running.{Running}
use Rattle.suite_hash.specs.Variants.{variant_of}
use Rattle.suite_hash.specs.Running.{run, absorbed}
use Rattle.suite_hash.specs.Hash.{hash}
use Rattle.suite_hash.proofs.Absorbing.{absorbed-append}
use Rattle.hmac.specs.declared.Keyed.{Keyed}
use Rattle.hmac.specs.Rfc2104.{hmac}
use Rattle.hmac.specs.Keyed.{keyed_of, closed, mac_of}
use Rattle.hmac.proofs.Prepared.{length-hmac, mac_is, mac_under}
use Rattle.hkdf.specs.Rfc5869.{extract, blocks_for, T, Ts, expand}
use Rattle.hkdf.specs.Rfc8446.{tls13, hkdf_label, expand_label, derive_secret}
use Rattle.hkdf.specs.Refusals.{max_message}
use Rattle.keyed.specs.Blocks.{label_block}
use Rattle.hkdf.proofs.Filling.{placed_front}
use Rattle.hkdf.proofs.Labels.{length_label}

-- ---- any value of a prepared key

module _ (suite : ℕ) where
  -- a key of the front of a place
  pub ready_is : (s : List ℕ) {h : ℕ} {k : Keyed} → h ≡ hash_length suite → k ≡ keyed_of suite (take h s) → k ≡ keyed_of suite
      (take (hash_length suite) s)
  ready_is s eh ek = ek ∙ ap (λ (n : ℕ). keyed_of suite (take n s)) eh

  -- the HkdfLabel and the first block's number, absorbed in parts after a pad; the block, cut
  pub block-cut : (k : Keyed) (label context : List ℕ) (asked : ℕ) {n : ℕ} {p q s t u : Running} {none head d r : List ℕ} → none ≡ zeros 128 → n ≡ block_length suite
      → head ≡ asked / 256 % 256 ∷ asked % 256 ∷ (6 + length label) % 256 ∷ tls13 → p ≡ absorbed (variant_of suite) (run k.inner none n) head
      → q ≡ absorbed (variant_of suite) p label → s ≡ absorbed (variant_of suite) q (length context % 256 ∷ [])
      → t ≡ absorbed (variant_of suite) s context → u ≡ absorbed (variant_of suite) t (1 ∷ [])
      → d ≡ closed suite k.outer u → r ≡ placed (take asked d) → r ≡ label_block suite k label context asked
  unfolding label_block mac_of hkdf_label
  block-cut k label context asked {n} {p} {q} {s} {t} {u} {none} {head} ez en eb ep eq es et eu ed er =
      let v = variant_of suite in
      let h = run k.inner none n in
      let size : List ℕ = length context % 256 ∷ [] in
      let e : u ≡ absorbed v h (((head ++ label ++ size) ++ context) ++ (1 ∷ [])) =
      rw (eu, et, es, eq, ep, absorbed-append v h ((head ++ label ++ size) ++ context) (1 ∷ []), absorbed-append v h (head ++ label ++ size) context, absorbed-append v h (head ++ label) size, absorbed-append v h head label) in
      er ∙ rw (ed, e, ez, en, eb)

-- zeros from index m on
pub cut_is : (t u : List ℕ) (n : ℕ) {m i : ℕ} → length t ≡ 48 → length u ≡ 48 → m ≡ min n (length t) → i ≡ 48
    → take i u ≡ take m t ++ zeros (i - m) → u ≡ placed (take n t)
cut_is t u n {m} {i} lt lu em ei e =
    let c : take m t ≡ take n t = ap (λ (j : ℕ). take j t) em ∙ take_least n t in
    let k : length (take m t) ≡ m = length-take-le m t (omega arith) in
    let z : i - m ≡ 48 - length (take m t) = omega arith in
    sym (take_all i u (omega arith)) ∙ e ∙ ap (λ (j : ℕ). take m t ++ zeros j) z ∙ sym (placed_is (take m t)) ∙ ap placed c

-- ---- a key's own

pub extract_is : (suite : ℕ) (salt input : List ℕ) {n : ℕ} {k : Keyed} {r : List ℕ} → n ≡ min max_message (length input)
    → k ≡ keyed_of suite salt → r ≡ mac_of suite k (take n input ++ ([] ++ [])) → r ≡ placed (extract suite salt (take max_message input))
unfolding extract
extract_is suite salt input {n} en ek er =
    let c : take n input ≡ take max_message input = ap (λ (j : ℕ). take j input) en ∙ take_least max_message input in
    let l : length (take n input) ≤ 2097152 = simp length-take (omega arith) in
    mac_under suite salt (take n input) [] [] (omega arith) ek er
    ∙ ap (λ (m : List ℕ). placed (hmac suite salt m)) (append-nil (take n input) ∙ c)

-- what is asked of one block is its front
one_block : (h n : ℕ) → 1 ≤ n → n ≤ h → blocks_for h n ≡ 1
unfolding blocks_for
one_block h n some most = div-eq_of_lt-le h (omega arith) (omega arith)

first_block : (suite : ℕ) (key info : List ℕ) (asked : ℕ) → 1 ≤ asked → asked ≤ hash_length suite
    → take asked (placed (hmac suite key (info ++ (1 ∷ [])))) ≡ expand suite key info asked
unfolding expand T Ts
first_block suite key info asked some most =
    let l = length-hmac suite key (info ++ (1 ∷ [])) in
    rw (one_block (hash_length suite) asked some most) (placed_front (hmac suite key (info ++ (1 ∷ []))) asked (omega arith))

pub label_block_is : (suite : ℕ) (key label context : List ℕ) (asked : ℕ) → 1 ≤ asked → asked ≤ hash_length suite → length label ≤ 249
    → length context ≤ 255 → label_block suite (keyed_of suite key) label context asked ≡ placed (expand_label suite key label context asked)
unfolding label_block expand_label
label_block_is suite key label context asked some most hl hc =
    let info = hkdf_label tls13 asked label context in
    let li : length info ≡ 10 + length label + length context = length_label asked label context in
    let l : length (info ++ (1 ∷ [])) ≡ length info + 1 = length-append info (1 ∷ []) in
    ap (λ (m : List ℕ). placed (take asked m)) (mac_is suite key (info ++ (1 ∷ [])) (omega arith))
    ∙ ap placed (first_block suite key info asked some most)

-- Derive-Secret, where the hash of the messages is at hand
pub derive_by_hash : (suite : ℕ) (secret label m : List ℕ) → expand_label suite secret label (hash suite m) (hash_length suite) ≡ derive_secret suite secret label m
unfolding derive_secret
derive_by_hash suite secret label m = refl

pub length-extract : (suite : ℕ) (salt ikm : List ℕ) → length (extract suite salt ikm) ≡ hash_length suite
unfolding extract
length-extract suite salt ikm = length-hmac suite salt ikm
