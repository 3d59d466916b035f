-- Words of 8 bytes, low byte first.
use Rattle.std.specs.Prelude.{ℕ, zero, suc, List, [], ◌∷◌, ◌++◌, take, drop}
use Rattle.buffer.specs.Numbers.{le, number}

-- words as bytes, and the n words that bytes stand for
unfoldable pub le_words : List ℕ → List ℕ
le_words [] = []
le_words (w ∷ ws) = le 8 w ++ le_words ws

unfoldable pub words : ℕ → List ℕ → List ℕ
words zero bs = []
words (suc n) bs = number (take 8 bs) ∷ words n (drop 8 bs)
