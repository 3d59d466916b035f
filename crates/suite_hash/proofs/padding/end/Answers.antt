use Rattle.suite_hash.proofs.Tail.{end_start, end_turn, end_is}
use Rattle.std.proofs.Common.{arith, length-set}
use Rattle.suite_hash.proofs.padding.end.Goals as goal

pub loop-i-init : goal.loop-i-init
loop-i-init c = (omega arith, omega arith, end_start c.args.block.now c.args.at)

pub loop-i-preserved : goal.loop-i-preserved
loop-i-preserved c =
    let l = c.loop-i in
    (omega arith, simp length-set l.invariant.1, end_turn c.args.block.now l.block {at = c.args.at} {i = l.i} (omega arith) (omega arith) l.invariant.2)

pub returns : goal.returns
returns c =
    let l = c.loop-i in
    end_is c.args.block.now l.block {at = c.args.at} {i = l.i} (omega arith) (omega arith) (omega arith) (omega arith) l.invariant.2
