use Rattle.std.proofs.Common.{arith}
use Rattle.input.proofs.Reading.{consumes_both, front_grows}
use Rattle.input.proofs.read_full.Goals as goal

pub loop-done-preserved : goal.loop-done-preserved
loop-done-preserved g c =
    let l = c.loop-done in (
      omega (arith, c.in_ok-n.ensures.bound),
      rw (front_grows l.done c.in_ok-n.n l.buf c.read.new.buf (omega arith) (omega (arith, c.in_ok-n.ensures.bound)))
          (consumes_both _ _ _ _ _ l.invariant.1 c.in_ok-n.ensures.bytes.0),
    )
