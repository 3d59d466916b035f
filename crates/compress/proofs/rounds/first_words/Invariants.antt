use Rattle.std.proofs.Common.{◌≡◌, length, map}
use Rattle.fips180.specs.Rows.{advanced}
use Rattle.compress.proofs.rounds.first_words.Given as goal

abbrev pub invariant-loop-i : goal.invariant-loop-i
invariant-loop-i g l =
    let f = g.V.Sha2.value in
    (map f l.w ≡ advanced g.V.Sha2.variant (map f l.fn.m) l.i) × (length l.w ≡ 16)
