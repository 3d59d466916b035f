use Rattle.std.proofs.Common.{map, arith, length-set}
use Rattle.std.proofs.lemmas.List.{get_or-map}
use Rattle.fips180.specs.Hash.{sums}
use Rattle.fips180.proofs.Filling.{sums_at}
use Rattle.compress.proofs.Filling.{filled-next, filled}
use Rattle.compress.proofs.functions.sums.Goals as goal

pub loop-i-preserved : goal.loop-i-preserved
unfolding sums
loop-i-preserved g c =
    let f = g.V.Sha2.value in
    let l = c.loop-i in
    let a = get_or-map f c.args.s l.i c.index-s-i.result 0 (omega arith) in
    let b = get_or-map f c.args.x l.i c.index-x-i.result 0 (omega arith) in
    let p = c.plus.ensures in
    let e = sums_at g.V.Sha2.variant (map f c.args.s) (map f c.args.x) l.i (omega arith) in
    (filled-next f _ l.r (omega arith) (omega arith) l.invariant.0 (cc), simp length-set l.invariant.1)

pub returns : goal.returns
unfolding sums
returns g c = filled g.V.Sha2.value _ _ {i = c.loop-i.i} (omega arith) (omega arith) c.loop-i.invariant.0
