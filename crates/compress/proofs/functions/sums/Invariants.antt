use Rattle.std.proofs.Common.{◌≡◌, length, map, take}
use Rattle.fips180.specs.Hash.{sums}
use Rattle.compress.proofs.functions.sums.Given as goal

abbrev pub invariant-loop-i : goal.invariant-loop-i
invariant-loop-i g l =
    let f = g.V.Sha2.value in
    (take l.i (map f l.r) ≡ take l.i (sums g.V.Sha2.variant (map f l.s) (map f l.x))) × (length l.r ≡ 8)
