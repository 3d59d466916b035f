use Rattle.std.proofs.Common.{◌∙◌, arith, length-set}
use Rattle.fips180.specs.Rows.{cut}
use Rattle.fips180.proofs.Filling.{cut_at}
use Rattle.compress.proofs.Filling.{filled-next, filled}
use Rattle.compress.proofs.blocks.cut.Goals as goal

pub loop-i-preserved : goal.loop-i-preserved
unfolding cut
loop-i-preserved g c =
    let l = c.loop-i in
    let e = c.cut.ensures ∙ cut_at g.V.Sha2.variant c.args.s l.i (omega arith) in
    (filled-next g.V.Sha2.value _ l.r (omega arith) (omega arith) l.invariant.0 e, simp length-set l.invariant.1)

pub returns : goal.returns
unfolding cut
returns g c = filled g.V.Sha2.value _ _ {i = c.loop-i.i} (omega arith) (omega arith) c.loop-i.invariant.0
