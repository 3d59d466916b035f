-- RFC 5869: HKDF, over the HMAC of a suite.
use Rattle.std.specs.Prelude.{ℕ, zero, suc, ◌+◌, ◌-◌, ◌/◌, List, [], ◌∷◌, ◌++◌, take}
use Rattle.suite.specs.Suite.{hash_length}
use Rattle.hmac.specs.Rfc2104.{hmac}

-- section 2.2
unfoldable pub extract : ℕ → List ℕ → List ℕ → List ℕ
extract suite salt ikm = hmac suite salt ikm

-- section 2.3: the fewest blocks of h bytes that cover n bytes
unfoldable pub blocks_for : ℕ → ℕ → ℕ
blocks_for h n = (n + (h - 1)) / h

-- T(i), and T(1) | T(2) | .. | T(n)
unfoldable pub T : ℕ → List ℕ → List ℕ → ℕ → List ℕ
T suite prk info zero = []
T suite prk info (suc i) = hmac suite prk (T suite prk info i ++ (info ++ (suc i ∷ [])))

unfoldable pub Ts : ℕ → List ℕ → List ℕ → ℕ → List ℕ
Ts suite prk info zero = []
Ts suite prk info (suc n) = Ts suite prk info n ++ T suite prk info (suc n)

-- the first `asked` bytes of as many blocks as cover them
unfoldable pub expand : ℕ → List ℕ → List ℕ → ℕ → List ℕ
expand suite prk info asked = take asked (Ts suite prk info (blocks_for (hash_length suite) asked))
