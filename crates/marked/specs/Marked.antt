-- Document 01, "Marked cases, proved in a single table".
use Rattle.std.specs.Prelude.{ℕ, ◌+◌, ◌*◌, ◌≤◌, ◌≡◌, true, List, [], ◌∷◌, length}
use Rattle.suite.specs.Suite.{known, hash_length, block_length}
use Rattle.fips180.specs.Variant.{Variant, sha256, sha384}
use Rattle.fips180.specs.Padding.{padded, blocks}
use Rattle.hkdf.specs.Rfc5869.{blocks_for}
use Rattle.hkdf.specs.Rfc8446.{tls13, hkdf_label}
use Rattle.hkdf.specs.Refusals.{expand_number, expand_label_number}
use Rattle.schedule.specs.Labels.{key, iv, finished, derived}
use Rattle.book.specs.Call.Call.{Handshake}
use Rattle.book.specs.Book.{Book, fresh, early, blank_at, stage_of}
use Rattle.book.specs.Refusals.{number, Reached}

-- n bytes are allowed and one more is refused 10, by Expand and by Expand-Label, with everything else in range
pub record Longest (suite n : ℕ) : Type 0 where
  pub expand_allowed : (secret info room : ℕ) → hash_length suite ≤ secret → secret ≤ block_length suite → info ≤ 1024 → n ≤ room
      → expand_number suite secret info n room ≡ 0
  pub expand_refused : (secret info room : ℕ) → hash_length suite ≤ secret → secret ≤ block_length suite → info ≤ 1024
      → expand_number suite secret info (n + 1) room ≡ 10
  pub label_allowed : (label context room : ℕ) → 1 ≤ label → label ≤ 249 → context ≤ 255 → n ≤ room
      → expand_label_number suite (hash_length suite) label context n room ≡ 0
  pub label_refused : (label context room : ℕ) → 1 ≤ label → label ≤ 249 → context ≤ 255
      → expand_label_number suite (hash_length suite) label context (n + 1) room ≡ 10

-- every message of n bytes pads to k blocks
abbrev pub PadsTo : Variant → ℕ → ℕ → Type 0
PadsTo v n k = (m : List ℕ) → length m ≡ n → (blocks v (length m) ≡ k) × (length (padded v m) ≡ k * v.block)

pub record Marked : Type 0 where
  -- "key", empty context, 16
  pub m1 : hkdf_label tls13 16 key []
      ≡ 0x00 ∷ 0x10 ∷ 0x09 ∷ 0x74 ∷ 0x6c ∷ 0x73 ∷ 0x31 ∷ 0x33 ∷ 0x20 ∷ 0x6b ∷ 0x65 ∷ 0x79 ∷ 0x00 ∷ []
  -- "iv", 12
  pub m2 : hkdf_label tls13 12 iv [] ≡ 0x00 ∷ 0x0c ∷ 0x08 ∷ 0x74 ∷ 0x6c ∷ 0x73 ∷ 0x31 ∷ 0x33 ∷ 0x20 ∷ 0x69 ∷ 0x76 ∷ 0x00 ∷ []
  -- "finished", 32, empty: 18 bytes
  pub m3 : length (hkdf_label tls13 32 finished []) ≡ 18
  -- "derived", 32, a context of 32 bytes: 49 bytes
  pub m4 : (context : List ℕ) → length context ≡ 32 → length (hkdf_label tls13 32 derived context) ≡ 49
  -- an expansion of 12 bytes, H 32: 1 block
  pub m5 : blocks_for 32 12 ≡ 1
  -- 32: 1 block; 33: 2
  pub m6 : (blocks_for 32 32 ≡ 1) × (blocks_for 32 33 ≡ 2)
  -- 8,160 allowed, 8,161 refused 10 (H 32)
  pub m7 : (suite : ℕ) → known suite ≡ true → hash_length suite ≡ 32 → Longest suite 8160
  -- 12,240 allowed, 12,241 refused 10 (H 48)
  pub m8 : (suite : ℕ) → known suite ≡ true → hash_length suite ≡ 48 → Longest suite 12240
  -- SHA-256 input of 55 bytes pads to 1 block, 56 to 2
  pub m9 : PadsTo sha256 55 1 × PadsTo sha256 56 2
  -- SHA-384 input of 111 bytes pads to 1 block, 112 to 2
  pub m10 : PadsTo sha384 111 1 × PadsTo sha384 112 2
  -- group 0 with one byte, no PSK: 4, in every session that can take Handshake
  pub m11 : (b : Book) (x : ℕ) → Reached b → b.point ≡ early → stage_of b ≡ 2 → b.kind ≡ 0 → number b (Handshake 0 (x ∷ [])) ≡ 4
  -- Handshake on a fresh session: 1, whatever the group and the secret
  pub m12 : (group : ℕ) (secret : List ℕ) → number (blank_at fresh) (Handshake group secret) ≡ 1
