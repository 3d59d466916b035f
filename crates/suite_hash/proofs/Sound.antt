-- What the laws of the running hash ask of a variant, and that both variants have it.
use Rattle.std.proofs.Common.{◌≡◌, ℕ, ◌+◌, ◌*◌, ◌/◌, ◌%◌, ◌^◌, ◌<◌, ◌≤◌, sym, refl, ap, ◌∙◌, mod-lt, arith}
use Rattle.suite.specs.declared.Hash.{Hash}
use Rattle.suite.specs.declared.Hash.TheVariants.{Sha256, Sha384}
use Rattle.suite.specs.declared.Suite.{Suite}
use Rattle.suite.specs.Suite.{suite_of, hash_of, hash_length, block_length}
use Rattle.suite.proofs.Laws.{every}
use Rattle.fips180.specs.Variant.{Variant, sha256, sha384}
use Rattle.fips180.specs.Padding.{zeros_for}
use Rattle.fips180.specs.Rows.{cut}
use Rattle.suite_hash.specs.Variants.{variant_for, variant_of}

pub record Sound (v : Variant) : Type 0 where
  -- blocks fit 128 bytes and digests 48, and a count wraps at a block's start
  pub some : 8 < v.block
  pub within : v.block ≤ 128
  pub turns : ℕ
  pub turning : 0 < turns
  pub even : turns * v.block ≡ 2 ^ 64
  pub short : v.digest ≤ 48
  pub enough : v.digest ≤ 8 * v.bytes
  pub initial : cut v v.H0 ≡ v.H0
  -- the padding of n bytes completes the block where it can, and else the next one
  pub field : v.field ≡ v.block / 8
  pub wide : (8 ≤ v.field) × (v.field ≤ 16)
  pub place : (n : ℕ) → n % 2 ^ 61 % v.block ≡ n % v.block
  pub fits : (n : ℕ) → n % v.block + (1 + v.field) ≤ v.block → zeros_for v n + (n % v.block + (1 + v.field)) ≡ v.block
  pub spills : (n : ℕ) → v.block < n % v.block + (1 + v.field) → zeros_for v n + (n % v.block + (1 + v.field)) ≡ v.block + v.block

pub sound256 : Sound sha256
unfolding sha256 cut zeros_for
sound256 =
    record {
      some = omega arith;
      within = omega arith;
      turns = 2 ^ 58;
      turning = omega arith;
      even = refl;
      short = omega arith;
      enough = omega arith;
      initial = refl;
      field = refl;
      wide = omega arith;
      place = λ n. omega arith;
      fits = λ n h. omega arith;
      spills = λ n h. omega arith;
    }

pub sound384 : Sound sha384
unfolding sha384 cut zeros_for
sound384 =
    record {
      some = omega arith;
      within = omega arith;
      turns = 2 ^ 57;
      turning = omega arith;
      even = refl;
      short = omega arith;
      enough = omega arith;
      initial = refl;
      field = refl;
      wide = omega arith;
      place = λ n. omega arith;
      fits = λ n h. omega arith;
      spills = λ n h. omega arith;
    }

pub positive : (v : Variant) → Sound v → 0 < v.block
positive v ok = let s = ok.some in omega arith

sound_for : (h : Hash) → Sound (variant_for h)
sound_for Sha256 = sound256
sound_for Sha384 = sound384

pub sound : (suite : ℕ) → Sound (variant_of suite)
unfolding variant_of
sound suite = sound_for (hash_of suite)

-- the table's lengths are the variant's
record Fitting (s : Suite) : Type 0 where
  pub digest : s.hash_len ≡ (variant_for s.hash).digest
  pub block : s.block_len ≡ (variant_for s.hash).block

fitting : (n : ℕ) → Fitting (suite_of n)
unfolding sha256 sha384
fitting =
    every Fitting (record { digest = refl; block = refl }) (record { digest = refl; block = refl })
    (record { digest = refl; block = refl }) (record { digest = refl; block = refl }) (record { digest = refl; block = refl })

pub block_len : (suite : ℕ) → block_length suite ≡ (variant_of suite).block
unfolding variant_of
block_len suite = (fitting suite).block

pub hash_len : (suite : ℕ) → hash_length suite ≡ (variant_of suite).digest
unfolding variant_of
hash_len suite = (fitting suite).digest

-- the place of a byte is within a block, and a block has room for a length
pub place_within : (suite count : ℕ) → count % (variant_of suite).block < block_length suite
place_within suite count = rw (block_len suite) (mod-lt count (positive _ (sound suite)))

pub block_some : (suite : ℕ) → 8 < block_length suite
block_some suite = rw (block_len suite) (sound suite).some

pub ruleset places = (place_within, block_some)
