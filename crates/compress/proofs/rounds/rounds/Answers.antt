use Rattle.std.proofs.Common.{add-one, arith}
use Rattle.std.proofs.lemmas.List.{get_or-map}
use Rattle.fips180.proofs.Rows.{rounds-next}
use Rattle.compress.proofs.rounds.rounds.Goals as goal

pub loop-i-preserved : goal.loop-i-preserved
loop-i-preserved g c =
    let f = g.V.Sha2.value in
    let l = c.loop-i in
    let a = get_or-map f c.args.k l.i c.index-k-i.result 0 (omega arith) in
    let b = get_or-map f c.args.w l.i c.index-w-i.result 0 (omega arith) in
    let e = c.round-x.ensures in
    rw add-one (rounds-next g.V.Sha2.variant _ _ _ l.i l.invariant (cc))
