use Rattle.script_line.specs.Words.{word}
use Prim.Native.Nat.{◌-◌}
use mathlib.Core.Path.{◌≡◌}
use Rattle.script_line.proofs.word.word.Given as goal

abbrev pub invariant-loop : goal.invariant-loop
invariant-loop l = word (l.k - l.counter) l.rest ≡ word l.k l.s
