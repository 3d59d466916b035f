use Rattle.std.proofs.Common.{◌≡◌, map}
use Rattle.fips180.specs.Rows.{rounds_with}
use Rattle.compress.proofs.rounds.first_rounds.Given as goal

abbrev pub invariant-loop-i : goal.invariant-loop-i
invariant-loop-i g l =
    let f = g.V.Sha2.value in
    map f l.x ≡ rounds_with g.V.Sha2.variant (map f l.fn.s) (map f l.k) (map f l.w) l.i
