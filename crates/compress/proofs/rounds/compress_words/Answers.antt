use Rattle.std.proofs.Common.{◌≡◌, ◌<◌, ◌*◌, refl, arith}
use Rattle.std.proofs.lemmas.List.{length-map}
use Rattle.fips180.specs.Hash.{rounds}
use Rattle.fips180.proofs.Schedule.{window_start}
use Rattle.fips180.proofs.Rows.{words_window, window_kept, sixteen_rounds, all_rounds}
use Rattle.compress.proofs.rounds.compress_words.Goals as goal

pub loop-q-init : goal.loop-q-init
unfolding rounds
loop-q-init g c = (refl, window_start g.V.Sha2.variant _ (rw length-map (omega arith)))

pub loop-q-preserved : goal.loop-q-preserved
loop-q-preserved g c =
    let v = g.V.Sha2.variant in
    let l = c.loop-q in
    let n = g.met.V.Sha2.rounds_law in
    let w = words_window v l.q (rw length-map (omega arith)) l.invariant.1 c.words_at-w.ensures in
    let less : l.q * 16 < v.rounds = omega (arith, n) in
    (sixteen_rounds v _ l.q l.invariant.0 w (c.constants.ensures less) c.rounds-x.ensures, window_kept v l.q w)

pub returns : goal.returns
returns g c =
    let v = g.V.Sha2.variant in
    let l = c.loop-q in
    let n = g.met.V.Sha2.rounds_law in
    let e : l.q * 16 ≡ v.rounds = omega (arith, n) in
    all_rounds v _ _ l.q e l.invariant.0 c.sums.ensures
