use Rattle.fips180.specs.Words.{rotr, rotations}
use Rattle.fips180.specs.Variant.{sha384, Σ0}
use Rattle.sha384.proofs.Sha384Sha2.upper0.Goals as goal

pub returns : goal.returns
unfolding Σ0 rotations rotr sha384
returns c = cc
