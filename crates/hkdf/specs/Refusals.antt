-- Document 01: the refusals of the lower calls, by sizes alone; the lowest that applies is given.
use Rattle.std.specs.Prelude.{ℕ, ◌*◌, Bool, cond, not, ◌&&◌, ◌||◌, eqb, leb, ltb}
use Rattle.suite.specs.Suite.{known, hash_length, block_length, max_label}
use Rattle.suite_hash.specs.Hash.{max_input}

-- limits: of an HMAC message and an Extract input, of the info of Expand, of the context of Expand-Label; the messages of
-- Derive-Secret are a hash input
abbrev pub max_message : ℕ
max_message = 1048576

abbrev pub max_info : ℕ
max_info = 1024

abbrev pub max_context : ℕ
max_context = 255

-- HMAC and Extract: key or salt, message or input, and room for H bytes
unfoldable pub mac_number : ℕ → ℕ → ℕ → ℕ → ℕ
mac_number suite key message room =
    cond (not (known suite)) 2
    (cond (ltb (block_length suite) key) 4
    (cond (ltb max_message message) 9
    (cond (ltb room (hash_length suite)) 11 0)))

-- 1 to 255 blocks
abbrev pub askable : ℕ → ℕ → Bool
askable suite asked = leb 1 asked && leb asked (255 * hash_length suite)

unfoldable pub expand_number : ℕ → ℕ → ℕ → ℕ → ℕ → ℕ
expand_number suite secret info asked room =
    cond (not (known suite)) 2
    (cond (not (leb (hash_length suite) secret && leb secret (block_length suite))) 4
    (cond (ltb max_info info || not (askable suite asked)) 10
    (cond (ltb room asked) 11 0)))

abbrev pub labelled : ℕ → Bool
labelled label = leb 1 label && leb label max_label

unfoldable pub expand_label_number : ℕ → ℕ → ℕ → ℕ → ℕ → ℕ → ℕ
expand_label_number suite secret label context asked room =
    cond (not (known suite)) 2
    (cond (not (eqb secret (hash_length suite))) 4
    (cond (not (labelled label) || (ltb max_context context || not (askable suite asked))) 10
    (cond (ltb room asked) 11 0)))

unfoldable pub derive_secret_number : ℕ → ℕ → ℕ → ℕ → ℕ → ℕ
derive_secret_number suite secret label messages room =
    cond (not (known suite)) 2
    (cond (not (eqb secret (hash_length suite))) 4
    (cond (ltb max_input messages) 9
    (cond (not (labelled label)) 10
    (cond (ltb room (hash_length suite)) 11 0))))
