-- Laws of the info in parts: a block of it under a prepared key, and as the HkdfLabel.
use Prim.Native.Nat.{ℕ, ◌+◌, ◌/◌, ◌%◌, ◌≤◌}
use mathlib.Core.Path.{◌≡◌, ap, ◌∙◌}
use mathlib.Core.List.{List, [], ◌∷◌, ◌++◌, append_assoc, append-nil}
use native.Mathlib.Omega.{arith}
use lib.ListN.{length, length-append}
use Rattle.buffer.specs.Buffer.{placed, fronted}
use Rattle.hmac.specs.declared.Keyed.{Keyed}
use Rattle.hmac.specs.Rfc2104.{hmac}
use Rattle.hmac.specs.Keyed.{keyed_of, mac_of}
use Rattle.hmac.proofs.Prepared.{mac_under}
use Rattle.hkdf.specs.Rfc5869.{expand}
use Rattle.hkdf.specs.Rfc8446.{tls13, hkdf_label, expand_label}

-- a block under a secret's own key is the HMAC
pub block_under : (suite : ℕ) (secret t info : List ℕ) (n : ℕ) {k : Keyed} {r : List ℕ} → length t ≤ 48 → length info ≤ 1024
    → k ≡ keyed_of suite secret → r ≡ mac_of suite k (t ++ (info ++ (n ∷ []))) → r ≡ placed (hmac suite secret (t ++ (info ++ (n ∷ []))))
block_under suite secret t info n lt li ek er = mac_under suite secret t info (n ∷ []) (omega arith) ek er

-- an info that is one part
pub alone_size : (m : List ℕ) → length m ≤ 1024 → length (m ++ []) ≤ 1024
alone_size m h = rw append-nil h

pub alone_is : (suite : ℕ) (secret m : List ℕ) (asked : ℕ) (out : List ℕ) {after' : List ℕ}
    → after' ≡ fronted (expand suite secret (m ++ []) asked) out → after' ≡ fronted (expand suite secret m asked) out
alone_is suite secret m asked out e = e ∙ ap (λ (i : List ℕ). fronted (expand suite secret i asked) out) (append-nil m)

pub length_label : (asked : ℕ) (label context : List ℕ) → length (hkdf_label tls13 asked label context) ≡ 10 + length label + length context
unfolding hkdf_label
length_label asked label context = simp length-append (omega arith)

-- the HkdfLabel in the parts that the code makes of it
abbrev pub label_parts : List ℕ → List ℕ → List ℕ → List ℕ
label_parts head label context = head ++ (label ++ ((length context % 256 ∷ []) ++ (context ++ [])))

module _ (asked : ℕ) (label context : List ℕ) {head : List ℕ} (eh : head ≡ asked / 256 % 256 ∷ asked % 256 ∷ (6 + length label) % 256 ∷ tls13) where
  label_parts-is : label_parts head label context ≡ hkdf_label tls13 asked label context
  unfolding hkdf_label
  label_parts-is = ap (λ (h : List ℕ). label_parts h label context) eh ∙ simp (append_assoc, append-nil)

  pub label-size : length label ≤ 249 → length context ≤ 255 → length (label_parts head label context) ≤ 1024
  label-size hl hc =
      let e = ap length label_parts-is in
      let l = length_label asked label context in
      omega arith

  -- what the code of Expand-Label leaves in the output
  pub label_is : (suite : ℕ) (secret out : List ℕ) {after' : List ℕ} → after' ≡ fronted (expand suite secret (label_parts head label context) asked) out
      → after' ≡ fronted (expand_label suite secret label context asked) out
  unfolding expand_label
  label_is suite secret out e = e ∙ ap (λ (i : List ℕ). fronted (expand suite secret i asked) out) label_parts-is
