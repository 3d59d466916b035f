use Rattle.keyed.proofs.Prepared.{cut_is}
use Rattle.suite_hash.proofs.Tail.{end_start, end_turn}
use Rattle.std.proofs.Common.{arith, length-set}
use Rattle.keyed.proofs.cut.Goals as goal

pub loop-i-init : goal.loop-i-init
loop-i-init c = (omega arith, omega arith, end_start c.args.t.now _)

pub loop-i-preserved : goal.loop-i-preserved
loop-i-preserved c =
    let l = c.loop-i in
    (omega arith, simp length-set l.invariant.1, end_turn c.args.t.now l.t {at = c.min-i.result} {i = l.i} (omega arith) (omega arith) l.invariant.2)

pub returns : goal.returns
returns c =
    let l = c.loop-i in
    cut_is c.args.t.now l.t c.args.n {m = c.min-i.result} {i = l.i} (omega arith) (omega arith) c.min-i.ensures (omega arith) l.invariant.2
