-- RFC 2104: HMAC, over the hash of a suite.
use Rattle.std.specs.Prelude.{ℕ, List, ◌++◌, map, take}
use Rattle.std.specs.Int.Bits.{bit_xor}
use Rattle.buffer.specs.Buffer.{zeros}
use Rattle.suite.specs.Suite.{block_length}
use Rattle.suite_hash.specs.Hash.{hash}

-- section 2: the key with zeros behind it, one block long. A key is at most one block; of a longer one, which every call
-- refuses, the first block's worth is read
unfoldable pub key_block : ℕ → List ℕ → List ℕ
key_block suite key = take (block_length suite) (key ++ zeros (block_length suite))

-- each byte XORed with the byte c
unfoldable pub xor_each : ℕ → List ℕ → List ℕ
xor_each c bs = map (λ (b : ℕ). bit_xor b c) bs

unfoldable pub ipad : ℕ → List ℕ → List ℕ
ipad suite key = xor_each 0x36 (key_block suite key)

unfoldable pub opad : ℕ → List ℕ → List ℕ
opad suite key = xor_each 0x5c (key_block suite key)

-- H(K XOR opad, H(K XOR ipad, text))
unfoldable pub hmac : ℕ → List ℕ → List ℕ → List ℕ
hmac suite key text = hash suite (opad suite key ++ hash suite (ipad suite key ++ text))
