-- How many blocks a padded message takes: always whole blocks, and the cases at the edge of a block.
use Rattle.std.proofs.Common.{◌≡◌, ℕ, ◌+◌, ◌*◌, List, length, refl, ap, ◌∙◌, arith}
use Rattle.fips180.specs.Variant.{Variant, sha256, sha384}
use Rattle.fips180.specs.Padding.{zeros_for, padded, blocks}
use Rattle.fips180.proofs.Lengths.{length-padded}

-- the length of a padded message of n bytes is that of its blocks
pub whole256 : (n : ℕ) → n + 1 + zeros_for sha256 n + sha256.field ≡ blocks sha256 n * sha256.block
unfolding zeros_for blocks sha256
whole256 n = omega arith

pub whole384 : (n : ℕ) → n + 1 + zeros_for sha384 n + sha384.field ≡ blocks sha384 n * sha384.block
unfolding zeros_for blocks sha384
whole384 n = omega arith

module _ (v : Variant) (whole : (n : ℕ) → n + 1 + zeros_for v n + v.field ≡ blocks v n * v.block) where
  pads : (n k : ℕ) → blocks v n ≡ k → (m : List ℕ) → length m ≡ n → (blocks v (length m) ≡ k) × (length (padded v m) ≡ k * v.block)
  pads n k e m h =
      let b : blocks v (length m) ≡ k = ap (blocks v) h ∙ e in
      (b, length-padded v m ∙ whole (length m) ∙ ap (λ (i : ℕ). i * v.block) b)

count256 : (blocks sha256 55 ≡ 1) × (blocks sha256 56 ≡ 2)
unfolding zeros_for blocks sha256
count256 = (refl, refl)

count384 : (blocks sha384 111 ≡ 1) × (blocks sha384 112 ≡ 2)
unfolding zeros_for blocks sha384
count384 = (refl, refl)

pub pads_55 : (m : List ℕ) → length m ≡ 55 → (blocks sha256 (length m) ≡ 1) × (length (padded sha256 m) ≡ 1 * sha256.block)
pads_55 = pads sha256 whole256 55 1 count256.0

pub pads_56 : (m : List ℕ) → length m ≡ 56 → (blocks sha256 (length m) ≡ 2) × (length (padded sha256 m) ≡ 2 * sha256.block)
pads_56 = pads sha256 whole256 56 2 count256.1

pub pads_111 : (m : List ℕ) → length m ≡ 111 → (blocks sha384 (length m) ≡ 1) × (length (padded sha384 m) ≡ 1 * sha384.block)
pads_111 = pads sha384 whole384 111 1 count384.0

pub pads_112 : (m : List ℕ) → length m ≡ 112 → (blocks sha384 (length m) ≡ 2) × (length (padded sha384 m) ≡ 2 * sha384.block)
pads_112 = pads sha384 whole384 112 2 count384.1
