use Rattle.std.proofs.Common.{refl}
use Rattle.suite_hash.specs.Running.{absorbed}
use Rattle.suite_hash.proofs.Absorbing.{parts-next}
use Rattle.suite_hash.proofs.running.Running.absorb_parts.Goals as goal

pub loop-part-init : goal.loop-part-init
unfolding absorbed
loop-part-init c = refl

pub loop-part-preserved : goal.loop-part-preserved
loop-part-preserved c =
    parts-next _ (λ part. part.now) c.args.self.now c.args.parts.now c.loop-part.part-index _ c.loop-part-test.true c.loop-part.invariant c.absorb.ensures
