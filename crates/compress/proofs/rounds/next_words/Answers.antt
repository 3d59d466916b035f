use Rattle.std.proofs.Common.{◌+◌, ◌%◌, add-one, arith, length-set}
use Rattle.std.proofs.lemmas.List.{map-set, get_or-map}
use Rattle.fips180.proofs.Rows.{advanced-next}
use Rattle.compress.proofs.rounds.next_words.Goals as goal

pub loop-i-preserved : goal.loop-i-preserved
loop-i-preserved g c =
    let f = g.V.Sha2.value in
    let l = c.loop-i in
    let a = get_or-map f l.w l.i c.index-w-i.result 0 (omega arith) in
    let b = get_or-map f l.w ((l.i + 1) % 16) c.index-w-i-in-loop-i.result 0 (omega arith) in
    let d = get_or-map f l.w ((l.i + 9) % 16) c.index-w-i-in-loop-i-2.result 0 (omega arith) in
    let e = get_or-map f l.w ((l.i + 14) % 16) c.index-w-i-in-loop-i-3.result 0 (omega arith) in
    let n = c.next_word.ensures in
    (rw (map-set, add-one) (advanced-next g.V.Sha2.variant _ l.i l.invariant.0 (cc)), simp length-set l.invariant.1)
