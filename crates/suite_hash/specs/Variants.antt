-- The variant of FIPS 180-4 that a suite's hash is.
use Rattle.std.specs.Prelude.{ℕ}
use Rattle.suite.specs.declared.Hash.{Hash}
use Rattle.suite.specs.declared.Hash.TheVariants.{Sha256, Sha384}
use Rattle.suite.specs.Suite.{hash_of}
use Rattle.fips180.specs.Variant.{Variant, sha256, sha384}

abbrev pub variant_for : Hash → Variant
variant_for Sha256 = sha256
variant_for Sha384 = sha384

unfoldable pub variant_of : ℕ → Variant
variant_of suite = variant_for (hash_of suite)
