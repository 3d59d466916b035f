-- The words of a line. They are parted by spaces.
use Rattle.std.specs.Prelude.{ℕ, zero, suc, cond, List, [], ◌∷◌, take, drop, eqb}
use Rattle.text.specs.Field.{field_len}

-- how many spaces s starts with
unfoldable pub spaces : List ℕ → ℕ
spaces [] = 0
spaces (c ∷ cs) = cond (eqb c 32) (suc (spaces cs)) 0

-- s without them
abbrev pub unspaced : List ℕ → List ℕ
unspaced s = drop (spaces s) s

-- the first word of s, and what stands behind it
abbrev pub first_word : List ℕ → List ℕ
first_word s = take (field_len (unspaced s)) (unspaced s)

abbrev pub behind_word : List ℕ → List ℕ
behind_word s = drop (field_len (unspaced s)) (unspaced s)

-- the word that has k words before it; empty where there is none
unfoldable pub word : ℕ → List ℕ → List ℕ
word zero s = first_word s
word (suc k) s = word k (behind_word s)
