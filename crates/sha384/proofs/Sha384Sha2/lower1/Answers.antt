use Rattle.fips180.specs.Words.{rotr, rotations_shift, shr}
use Rattle.fips180.specs.Variant.{sha384, σ1}
use Rattle.sha384.proofs.Sha384Sha2.lower1.Goals as goal

pub returns : goal.returns
unfolding σ1 rotations_shift rotr shr sha384
returns c = cc
