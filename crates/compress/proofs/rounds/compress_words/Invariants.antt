use Rattle.std.proofs.Common.{◌≡◌, ◌-◌, ◌*◌, map}
use Rattle.fips180.specs.Hash.{rounds}
use Rattle.fips180.proofs.Schedule.{Window}
use Rattle.compress.proofs.rounds.compress_words.Given as goal

abbrev pub invariant-loop-q : goal.invariant-loop-q
invariant-loop-q g l =
    let v = g.V.Sha2.variant in
    let m = map g.V.Sha2.value l.fn.m in
    (map g.V.Sha2.value l.x ≡ rounds v (map g.V.Sha2.value l.fn.s) m (l.q * 16))
    × Window v m (map g.V.Sha2.value l.w) ((l.q - 1) * 16)
