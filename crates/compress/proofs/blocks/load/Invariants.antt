use Rattle.std.proofs.Common.{◌≡◌, length, map, take}
use Rattle.fips180.specs.Padding.{words_of}
use Rattle.compress.proofs.blocks.load.Given as goal

abbrev pub invariant-loop-i : goal.invariant-loop-i
invariant-loop-i g l =
    (take l.i (map g.V.Sha2.value l.w) ≡ words_of g.V.Sha2.variant l.i l.fn.b) × (length l.w ≡ 16)
