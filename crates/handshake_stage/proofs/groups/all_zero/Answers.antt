use native.Mathlib.Omega.{arith}
use Rattle.book.proofs.Bytes.{zero_turn, zero-done}
use Rattle.handshake_stage.proofs.groups.all_zero.Goals as goal

pub loop-x-preserved : goal.loop-x-preserved
loop-x-preserved c = let l = c.loop-x in zero_turn _ l.bits l.x-index c.loop-x-test.true l.invariant

pub returns : goal.returns
returns c = let l = c.loop-x in zero-done _ l.bits l.x-index (omega (arith, c.loop-x-test.false)) l.invariant
