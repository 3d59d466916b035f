use Rattle.fips180.specs.Words.{rotr, rotations}
use Rattle.fips180.specs.Variant.{sha256, Σ1}
use Rattle.sha256.proofs.Sha256Sha2.upper1.Goals as goal

pub returns : goal.returns
unfolding Σ1 rotations rotr sha256
returns c = cc
