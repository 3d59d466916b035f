use Prim.Native.Nat.{◌≤◌, ◌+◌, ◌*◌}
use mathlib.Core.Path.{◌≡◌}
use lib.ListN.{length, take}
use Rattle.encoding.specs.Words.{le_words}
use Rattle.encoder.specs.Over.{Over}
use Rattle.encoder.proofs.put_words.Given as goal

abbrev pub invariant-loop-word : goal.invariant-loop-word
invariant-loop-word l =
    (length l.words ≡ 8) × (l.at + 64 ≤ length l.initial.out)
    × Over l.at l.initial.out l.out l.next (le_words (take l.word-index l.words)) (8 * l.word-index)
