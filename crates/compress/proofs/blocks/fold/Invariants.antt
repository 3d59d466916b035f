use Rattle.std.proofs.Common.{◌≡◌, ◌*◌, ◌≤◌, length, map, drop}
use Rattle.fips180.specs.Rows.{cut, folded}
use Rattle.compress.proofs.blocks.fold.Given as goal

abbrev pub invariant-loop-block : goal.invariant-loop-block
invariant-loop-block g l =
    let v = g.V.Sha2.variant in
    let k = length l.yielded in
    (map g.V.Sha2.value l.x ≡ cut v (folded v l.fn.s l.fn.p k)) × (l.block-iterator.size ≡ v.block)
    × (l.block-iterator.rest.now ≡ drop (k * v.block) l.fn.p) × (k * v.block ≤ length l.fn.p)
