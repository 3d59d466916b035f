-- Fields of a text, which end at a space, a line feed, or the text's end.
use Rattle.std.specs.Prelude.{ℕ, suc, ◌+◌, min, cond, ◌||◌, List, [], ◌∷◌, length, drop, eqb}

-- the length of the field at the front of s
unfoldable pub field_len : List ℕ → ℕ
field_len [] = 0
field_len (c ∷ cs) = cond (eqb c 32 || eqb c 10) 0 (suc (field_len cs))

-- the end of the field that starts at index from
unfoldable pub field_end : List ℕ → ℕ → ℕ
field_end s from = min (from + field_len (drop from s)) (length s)
