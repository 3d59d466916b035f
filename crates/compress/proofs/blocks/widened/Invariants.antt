use Rattle.std.proofs.Common.{◌≡◌, length, map, take}
use Rattle.compress.proofs.blocks.widened.Given as goal

abbrev pub invariant-loop-i : goal.invariant-loop-i
invariant-loop-i g l = (take l.i l.r ≡ take l.i (map g.V.Sha2.value l.s)) × (length l.r ≡ 8)
