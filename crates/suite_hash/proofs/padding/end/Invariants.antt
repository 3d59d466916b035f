use Rattle.buffer.specs.Buffer.{zeros}
use Rattle.std.proofs.Common.{◌≡◌, ◌-◌, ◌≤◌, ◌++◌, length, take}
use Rattle.suite_hash.proofs.padding.end.Given as goal

abbrev pub invariant-loop-i : goal.invariant-loop-i
invariant-loop-i l = (l.at ≤ l.i) × (length l.block ≡ 128) × (take l.i l.block ≡ take l.at l.initial.block ++ zeros (l.i - l.at))
