-- RFC 8446, section 7.1: HKDF-Expand-Label and Derive-Secret.
use Rattle.std.specs.Prelude.{ℕ, ◌+◌, ◌/◌, ◌%◌, List, [], ◌∷◌, ◌++◌, length}
use Rattle.suite.specs.Suite.{hash_length}
use Rattle.suite_hash.specs.Hash.{hash}
use Rattle.hkdf.specs.Rfc5869.{expand}

-- "tls13 "
abbrev pub tls13 : List ℕ
tls13 = 0x74 ∷ 0x6c ∷ 0x73 ∷ 0x31 ∷ 0x33 ∷ 0x20 ∷ []

-- struct HkdfLabel: uint16 length; opaque label<7..255>, the prefix and the label; opaque context<0..255>
unfoldable pub hkdf_label : List ℕ → ℕ → List ℕ → List ℕ → List ℕ
hkdf_label prefix asked label context =
    (asked / 256 % 256 ∷ asked % 256 ∷ (length prefix + length label) % 256 ∷ [])
    ++ prefix ++ label ++ (length context % 256 ∷ []) ++ context

unfoldable pub expand_label : ℕ → List ℕ → List ℕ → List ℕ → ℕ → List ℕ
expand_label suite secret label context asked = expand suite secret (hkdf_label tls13 asked label context) asked

-- the context is the hash of the messages
unfoldable pub derive_secret : ℕ → List ℕ → List ℕ → List ℕ → List ℕ
derive_secret suite secret label messages = expand_label suite secret label (hash suite messages) (hash_length suite)
