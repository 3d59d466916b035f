use Rattle.std.proofs.Common.{◌-◌, ◌≤◌}
use Rattle.vectors.proofs.hashing.Message.in_pieces.Given as goal

abbrev pub invariant-loop-done : goal.invariant-loop-done
invariant-loop-done l = (l.done ≤ l.self.len) × (1 ≤ l.size) × (l.size ≤ 257)

abbrev pub decreases-loop-done : goal.decreases-loop-done
decreases-loop-done l = l.self.len - l.done
