-- Lengths, once for every variant: of numbers as bytes, of a padded message, and of a digest.
use Prim.Native.Nat.{ℕ, zero, suc, ◌+◌, ◌-◌, ◌*◌, ◌%◌, ◌≤◌, ◌<◌}
use mathlib.Core.Path.{◌≡◌, refl, ap}
use mathlib.Core.List.{List}
use native.Mathlib.Nat.{mod-lt}
use native.Mathlib.Omega.{arith}
use lib.ListN.{length, length-append, length-take}
use Rattle.buffer.proofs.Laws.{length-zeros}
use Rattle.fips180.specs.Words.{bytes_of}
use Rattle.fips180.specs.Variant.{Variant}
use Rattle.fips180.specs.Padding.{zeros_for, padding, padded}
use Rattle.fips180.specs.Hash.{digest_of, sha2}

pub length-bytes_of : (n x : ℕ) → length (bytes_of n x) ≡ n
unfolding bytes_of
length-bytes_of zero x = refl
length-bytes_of (suc n) x = ap suc (length-bytes_of n x)

module _ (v : Variant) where
  pub length-padding : (n : ℕ) → length (padding v n) ≡ 1 + zeros_for v n + v.field
  unfolding padding
  length-padding n = simp (length-append, length-zeros, length-bytes_of) (omega arith)

  pub length-padded : (m : List ℕ) → length (padded v m) ≡ length m + 1 + zeros_for v (length m) + v.field
  unfolding padded
  length-padded m = simp (length-append, length-padding) (omega arith)

  pub few_zeros : (n : ℕ) → 0 < v.block → zeros_for v n < v.block
  unfolding zeros_for
  few_zeros n some = mod-lt (v.block - (n + (1 + v.field)) % v.block) some

  pub length-digest_of : (s : List ℕ) → v.digest ≤ 8 * v.bytes → length (digest_of v s) ≡ v.digest
  unfolding digest_of
  length-digest_of s h = simp (length-take, length-append, length-bytes_of) (omega arith)

  pub length-sha2 : (m : List ℕ) → v.digest ≤ 8 * v.bytes → length (sha2 v m) ≡ v.digest
  unfolding sha2
  length-sha2 m h = length-digest_of _ h
