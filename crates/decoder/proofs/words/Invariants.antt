use mathlib.Core.Path.{◌≡◌}
use lib.ListN.{length, take, drop}
use Rattle.encoding.specs.Words.{words}
use Rattle.decoder.proofs.words.Given as goal

abbrev pub invariant-loop-i : goal.invariant-loop-i
invariant-loop-i l = (length l.r ≡ 8) × (take l.i l.r ≡ take l.i (words 8 (drop 16 l.b)))
