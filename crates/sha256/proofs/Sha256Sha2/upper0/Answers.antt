use Rattle.fips180.specs.Words.{rotr, rotations}
use Rattle.fips180.specs.Variant.{sha256, Σ0}
use Rattle.sha256.proofs.Sha256Sha2.upper0.Goals as goal

pub returns : goal.returns
unfolding Σ0 rotations rotr sha256
returns c = cc
