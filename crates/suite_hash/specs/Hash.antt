-- The call that hashes a whole input for a suite.
use Rattle.std.specs.Prelude.{ℕ, cond, not, List, nat_lt}
use Rattle.suite.specs.Suite.{known, hash_length}
use Rattle.fips180.specs.Hash.{sha2}
use Rattle.suite_hash.specs.Variants.{variant_of}

-- the hash of a suite
unfoldable pub hash : ℕ → List ℕ → List ℕ
hash suite m = sha2 (variant_of suite) m

-- the longest input that is taken
abbrev pub max_input : ℕ
max_input = 2097152

-- the refusal of an input of n bytes with that much room for the digest, or 0
unfoldable pub hash_number : ℕ → ℕ → ℕ → ℕ
hash_number suite n room =
    cond (not (known suite)) 2
    (cond (nat_lt max_input n) 9
    (cond (nat_lt room (hash_length suite)) 11 0))
