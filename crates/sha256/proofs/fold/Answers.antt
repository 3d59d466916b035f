use Rattle.std.proofs.Common.{ℕ, arith, length-take}
use Rattle.std.proofs.lemmas.List.{take-take}
use Rattle.fips180.specs.Variant.{sha256}
use Rattle.fips180.proofs.Fronts.{fold_front}
use Rattle.sha256.proofs.fold.Goals as goal

-- by the blocks of what is handed on: it may be any front of p that holds p's blocks
pub returns : goal.returns
unfolding sha256
returns c = fold_front sha256 _ c.args.p.now _ c.fold.ensures (omega (arith, length-take {A = ℕ})) (grind (arith, take-take))
