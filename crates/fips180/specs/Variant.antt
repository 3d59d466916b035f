-- What tells SHA-256 and SHA-384 apart (FIPS 180-4, figure 1 and sections 4.1, 4.2, 5.1, 5.3).
use Rattle.std.specs.Prelude.{ℕ, List}
use Rattle.fips180.specs.Words.{Amounts, by, rotations, rotations_shift}
use Rattle.fips180.specs.Constants.{K256, K384, H256, H384}

pub record Variant : Type 0 where
  pub bits : ℕ  -- of a word
  pub bytes : ℕ  -- of a word
  pub block : ℕ  -- bytes of a block
  pub digest : ℕ  -- bytes of the digest
  pub field : ℕ  -- bytes of the padding's length field
  pub rounds : ℕ
  pub upper0 : Amounts  -- of Σ0
  pub upper1 : Amounts  -- of Σ1
  pub lower0 : Amounts  -- of σ0
  pub lower1 : Amounts  -- of σ1
  pub K : List ℕ  -- a constant for each round
  pub H0 : List ℕ  -- the initial hash value

unfoldable pub sha256 : Variant
sha256 =
    record {
      bits = 32;
      bytes = 4;
      block = 64;
      digest = 32;
      field = 8;
      rounds = 64;
      upper0 = by 2 13 22;
      upper1 = by 6 11 25;
      lower0 = by 7 18 3;
      lower1 = by 17 19 10;
      K = K256;
      H0 = H256;
    }

unfoldable pub sha384 : Variant
sha384 =
    record {
      bits = 64;
      bytes = 8;
      block = 128;
      digest = 48;
      field = 16;
      rounds = 80;
      upper0 = by 28 34 39;
      upper1 = by 14 18 41;
      lower0 = by 1 8 7;
      lower1 = by 19 61 6;
      K = K384;
      H0 = H384;
    }

-- 4.1: the four sigma functions
module _ (v : Variant) where
  unfoldable pub Σ0 : ℕ → ℕ
  Σ0 = rotations v.bits v.upper0

  unfoldable pub Σ1 : ℕ → ℕ
  Σ1 = rotations v.bits v.upper1

  unfoldable pub σ0 : ℕ → ℕ
  σ0 = rotations_shift v.bits v.lower0

  unfoldable pub σ1 : ℕ → ℕ
  σ1 = rotations_shift v.bits v.lower1
