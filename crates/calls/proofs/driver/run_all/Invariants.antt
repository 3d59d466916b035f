use Rattle.std.proofs.Common.{◌+◌, ◌≤◌, length}
use Rattle.calls.proofs.driver.run_all.Given as goal

abbrev pub invariant-loop-rest : goal.invariant-loop-rest
invariant-loop-rest l = l.records + length l.rest ≤ length l.input

abbrev pub decreases-loop-rest : goal.decreases-loop-rest
decreases-loop-rest l = length l.rest
