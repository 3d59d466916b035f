use Rattle.std.proofs.Common.{◌≡◌, length, map, take}
use Rattle.fips180.specs.Rows.{cut}
use Rattle.compress.proofs.blocks.cut.Given as goal

abbrev pub invariant-loop-i : goal.invariant-loop-i
invariant-loop-i g l =
    (take l.i (map g.V.Sha2.value l.r) ≡ take l.i (cut g.V.Sha2.variant l.s)) × (length l.r ≡ 8)
