use Rattle.fips180.specs.Words.{rotr, rotations_shift, shr}
use Rattle.fips180.specs.Variant.{sha256, σ0}
use Rattle.sha256.proofs.Sha256Sha2.lower0.Goals as goal

pub returns : goal.returns
unfolding σ0 rotations_shift rotr shr sha256
returns c = cc
