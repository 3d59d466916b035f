-- The digests of no bytes, computed by the definitions of FIPS 180-4.
use mathlib.Core.Path.{◌≡◌, refl}
use mathlib.Core.List.{[], ◌∷◌}
use Rattle.buffer.specs.Buffer.{zeros}
use Rattle.fips180.specs.Variant.{sha256, sha384, Σ0, Σ1, σ0, σ1}
use Rattle.fips180.specs.Words.{plus, rotr, shr, bytes_of, number_from, ch, maj, rotations, rotations_shift}
use Rattle.fips180.specs.Padding.{zeros_for, padding, padded, blocks, block_at, words_of}
use Rattle.fips180.specs.Hash.{next_word, schedule, W, t1, t2, round, rounds, sums, compress, hash_value, digest_of, sha2}

pub empty_256 : sha2 sha256 [] ≡ 0xe3 ∷ 0xb0 ∷ 0xc4 ∷ 0x42 ∷ 0x98 ∷ 0xfc ∷ 0x1c ∷ 0x14 ∷ 0x9a ∷ 0xfb ∷ 0xf4 ∷ 0xc8 ∷ 0x99 ∷ 0x6f ∷ 0xb9 ∷ 0x24 ∷ 0x27 ∷ 0xae ∷ 0x41 ∷ 0xe4 ∷ 0x64 ∷ 0x9b ∷ 0x93 ∷ 0x4c ∷ 0xa4 ∷ 0x95 ∷ 0x99 ∷ 0x1b ∷ 0x78 ∷ 0x52 ∷ 0xb8 ∷ 0x55 ∷ []
unfolding sha2 digest_of hash_value compress sums rounds round t1 t2 W schedule next_word plus rotr shr bytes_of number_from ch maj rotations rotations_shift
    Σ0 Σ1 σ0 σ1 zeros_for padding padded blocks block_at words_of zeros sha256
empty_256 = refl

pub empty_384 : sha2 sha384 [] ≡ 0x38 ∷ 0xb0 ∷ 0x60 ∷ 0xa7 ∷ 0x51 ∷ 0xac ∷ 0x96 ∷ 0x38 ∷ 0x4c ∷ 0xd9 ∷ 0x32 ∷ 0x7e ∷ 0xb1 ∷ 0xb1 ∷ 0xe3 ∷ 0x6a ∷ 0x21 ∷ 0xfd ∷ 0xb7 ∷ 0x11 ∷ 0x14 ∷ 0xbe ∷ 0x07 ∷ 0x43 ∷ 0x4c ∷ 0x0c ∷ 0xc7 ∷ 0xbf ∷ 0x63 ∷ 0xf6 ∷ 0xe1 ∷ 0xda ∷ 0x27 ∷ 0x4e ∷ 0xde ∷ 0xbf ∷ 0xe7 ∷ 0x6f ∷ 0x65 ∷ 0xfb ∷ 0xd5 ∷ 0x1a ∷ 0xd2 ∷ 0xf1 ∷ 0x48 ∷ 0x98 ∷ 0xb9 ∷ 0x5b ∷ []
unfolding sha2 digest_of hash_value compress sums rounds round t1 t2 W schedule next_word plus rotr shr bytes_of number_from ch maj rotations rotations_shift
    Σ0 Σ1 σ0 σ1 zeros_for padding padded blocks block_at words_of zeros sha384
empty_384 = refl
