use Rattle.std.proofs.Common.{arith}
use Rattle.std.proofs.lemmas.List.{get_or-map}
use Rattle.fips180.specs.Hash.{round}
use Rattle.compress.proofs.functions.round.Goals as goal

pub returns : goal.returns
unfolding round
returns g c =
    let s = c.args.s in
    let at = get_or-map g.V.Sha2.value s in
    let ea = at 0 c.index-s-0.result 0 (omega arith) in
    let eb = at 1 c.index-s-1.result 0 (omega arith) in
    let ec = at 2 c.index-s-2.result 0 (omega arith) in
    let ed = at 3 c.index-s-3.result 0 (omega arith) in
    let ee = at 4 c.index-s-4.result 0 (omega arith) in
    let ef = at 5 c.index-s-5.result 0 (omega arith) in
    let eg = at 6 c.index-s-6.result 0 (omega arith) in
    let eh = at 7 c.index-s-7.result 0 (omega arith) in
    let x = c.t1-x.ensures in
    let y = c.t2-y.ensures in
    let p = c.plus.ensures in
    let q = c.plus-2.ensures in
    cc
