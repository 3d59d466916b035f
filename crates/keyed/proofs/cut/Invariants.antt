use Rattle.buffer.specs.Buffer.{zeros}
use Rattle.std.proofs.Common.{◌≡◌, ◌-◌, ◌≤◌, ◌++◌, length, take}
use Rattle.keyed.proofs.cut.Given as goal

abbrev pub invariant-loop-i : goal.invariant-loop-i
invariant-loop-i l = (l.initial.i ≤ l.i) × (length l.t ≡ 48) × (take l.i l.t ≡ take l.initial.i l.initial.t ++ zeros (l.i - l.initial.i))
