use Rattle.std.proofs.Common.{map, sym, ◌∙◌, arith, length-set}
use Rattle.std.proofs.lemmas.List.{get_or-map, length-map}
use Rattle.fips180.proofs.Filling.{fill_step}
use Rattle.compress.proofs.blocks.widened.Goals as goal

pub loop-i-preserved : goal.loop-i-preserved
loop-i-preserved g c =
    let f = g.V.Sha2.value in
    let l = c.loop-i in
    let s = c.args.s in
    let e = c.widened.ensures ∙ sym (get_or-map f s l.i c.index-s-i.result 0 (omega arith)) in
    (fill_step (map f s) l.r (rw length-map (omega arith)) (omega arith) l.invariant.0 e, simp length-set l.invariant.1)
