-- The edges of the lower calls: worked labels, blocks at the edge of one, and the longest output.
use Prim.Native.Nat.{ℕ, ◌+◌, ◌*◌, ◌≤◌, ◌<◌}
use mathlib.Core.Path.{◌≡◌, refl}
use mathlib.Core.Bool.{true}
use mathlib.Core.List.{List, [], ◌∷◌}
use native.Mathlib.Omega.{arith}
use lib.ListN.{length}
use borrow.Author.Tests.{le-leb, lt-leb, le-ltb, eq-eqb}
use Rattle.suite.specs.Suite.{known, hash_length, block_length, max_label}
use Rattle.hkdf.specs.Rfc5869.{blocks_for}
use Rattle.hkdf.specs.Rfc8446.{tls13, hkdf_label}
use Rattle.hkdf.specs.Refusals.{expand_number, expand_label_number, max_info, max_context}
use Rattle.hkdf.proofs.Labels.{length_label}

pub key-label : hkdf_label tls13 16 (0x6b ∷ 0x65 ∷ 0x79 ∷ []) []
    ≡ 0x00 ∷ 0x10 ∷ 0x09 ∷ 0x74 ∷ 0x6c ∷ 0x73 ∷ 0x31 ∷ 0x33 ∷ 0x20 ∷ 0x6b ∷ 0x65 ∷ 0x79 ∷ 0x00 ∷ []
unfolding hkdf_label
key-label = refl

pub iv-label : hkdf_label tls13 12 (0x69 ∷ 0x76 ∷ []) []
    ≡ 0x00 ∷ 0x0c ∷ 0x08 ∷ 0x74 ∷ 0x6c ∷ 0x73 ∷ 0x31 ∷ 0x33 ∷ 0x20 ∷ 0x69 ∷ 0x76 ∷ 0x00 ∷ []
unfolding hkdf_label
iv-label = refl

-- a label of n bytes and a context of k bytes
pub label_long : (asked : ℕ) (label context : List ℕ) (n k m : ℕ) → length label ≡ n → length context ≡ k → m ≡ 10 + n + k
    → length (hkdf_label tls13 asked label context) ≡ m
label_long asked label context n k m el ec em = let l = length_label asked label context in omega arith

pub blocks_12 : blocks_for 32 12 ≡ 1
unfolding blocks_for
blocks_12 = refl

pub blocks_32 : blocks_for 32 32 ≡ 1
unfolding blocks_for
blocks_32 = refl

pub blocks_33 : blocks_for 32 33 ≡ 2
unfolding blocks_for
blocks_33 = refl

-- the longest output is 255 blocks, of Expand and of Expand-Label
module _ (suite : ℕ) (is : known suite ≡ true) where
  pub expand_allowed_lem : (secret info asked room : ℕ) → hash_length suite ≤ secret → secret ≤ block_length suite → info ≤ max_info → 1 ≤ asked
      → asked ≤ 255 * hash_length suite → asked ≤ room → expand_number suite secret info asked room ≡ 0
  unfolding expand_number
  expand_allowed_lem secret info asked room a b c d e f =
      simp (is, le-leb _ _ a, le-leb _ _ b, le-ltb _ _ c, le-leb _ _ d, le-leb _ _ e, le-ltb _ _ f)

  pub expand-refused : (secret info asked room : ℕ) → hash_length suite ≤ secret → secret ≤ block_length suite → info ≤ max_info
      → 255 * hash_length suite < asked → expand_number suite secret info asked room ≡ 10
  unfolding expand_number
  expand-refused secret info asked room a b c d =
      let p : 1 ≤ asked = omega arith in
      simp (is, le-leb _ _ a, le-leb _ _ b, le-ltb _ _ c, le-leb _ _ p, lt-leb _ _ d)

  pub label_allowed_lem : (label context asked room : ℕ) → 1 ≤ label → label ≤ max_label → context ≤ max_context → 1 ≤ asked
      → asked ≤ 255 * hash_length suite → asked ≤ room → expand_label_number suite (hash_length suite) label context asked room ≡ 0
  unfolding expand_label_number
  label_allowed_lem label context asked room a b c d e f =
      simp (is, eq-eqb (hash_length suite) (hash_length suite) refl, le-leb _ _ a, le-leb _ _ b, le-ltb _ _ c, le-leb _ _ d, le-leb _ _ e, le-ltb _ _ f)

  pub label-refused : (label context asked room : ℕ) → 1 ≤ label → label ≤ max_label → context ≤ max_context
      → 255 * hash_length suite < asked → expand_label_number suite (hash_length suite) label context asked room ≡ 10
  unfolding expand_label_number
  label-refused label context asked room a b c d =
      let p : 1 ≤ asked = omega arith in
      simp (is, eq-eqb (hash_length suite) (hash_length suite) refl, le-leb _ _ a, le-leb _ _ b, le-ltb _ _ c, le-leb _ _ p, lt-leb _ _ d)
