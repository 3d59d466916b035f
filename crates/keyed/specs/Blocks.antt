-- The first block of Expand-Label under a prepared key: a function of every value that such a key can have. Of the keys that
-- `prepare` gives, `proofs/Prepared` joins it to RFC 8446.
use Rattle.std.specs.Prelude.{ℕ, List, [], ◌∷◌, ◌++◌, take}
use Rattle.buffer.specs.Buffer.{placed}
use Rattle.hmac.specs.declared.Keyed.{Keyed}
use Rattle.hmac.specs.Keyed.{mac_of}
use Rattle.hkdf.specs.Rfc8446.{tls13, hkdf_label}

-- cut to what is asked
unfoldable pub label_block : ℕ → Keyed → List ℕ → List ℕ → ℕ → List ℕ
label_block suite k label context asked =
    placed (take asked (mac_of suite k (hkdf_label tls13 asked label context ++ (1 ∷ []))))
