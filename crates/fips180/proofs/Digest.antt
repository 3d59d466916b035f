-- Laws of the digest, byte by byte. Once for every variant.
use mathlib.Core.Path.{◌≡◌, ap, ◌∙◌}
use mathlib.Core.List.{List, ◌++◌, map, append_assoc}
use Prim.Native.Nat.{ℕ, suc, ◌+◌, ◌-◌, ◌/◌, ◌%◌, ◌<◌}
use native.Mathlib.Omega.{arith}
use lib.ListN.{get_or, set}
use lib.Seq.{set_at}
use Rattle.std.specs.List.{range_with_len}
use Rattle.std.proofs.lemmas.List.FromFn.{length-map-range_with_len, map-range_with_len_more}
use Rattle.buffer.specs.Buffer.{zeros}
use Rattle.fips180.specs.Words.{bytes_of}
use Rattle.fips180.specs.Variant.{Variant}
use Rattle.fips180.specs.Hash.{digest_of}
use Rattle.fips180.specs.Rows.{cut, digest_in48}

module _ (v : Variant) where
  -- byte i of a digest, and its first n bytes
  abbrev pub digest_byte : List ℕ → ℕ → ℕ
  digest_byte s i = get_or (bytes_of v.bytes (get_or s (i / v.bytes) 0)) (i % v.bytes) 0

  abbrev pub digest_bytes : List ℕ → ℕ → List ℕ
  digest_bytes s n = map (digest_byte s) (range_with_len 0 n)

  -- the byte i, written over the first of the zeros behind the bytes before it
  pub digest-next : (s : List ℕ) {d : List ℕ} {i x : ℕ} → i < 48 → d ≡ digest_bytes s i ++ zeros (48 - i) → x ≡ digest_byte s i
      → set d i x ≡ digest_bytes s (i + 1) ++ zeros (48 - (i + 1))
  unfolding zeros
  digest-next s {d} {i} {x} h e ex =
      let n : 48 - i ≡ suc (48 - (i + 1)) = omega arith in
      let m = map-range_with_len_more (digest_byte s) 0 i i (omega arith) in
      let l = length-map-range_with_len (digest_byte s) 0 i in
      rw (e, n, set_at (digest_bytes s i) 0 (zeros (48 - (i + 1))) x i l, m, append_assoc, ex)

  pub digest-cut : (s : List ℕ) {c r : List ℕ} → c ≡ cut v s → r ≡ digest_of v c ++ zeros (48 - v.digest) → r ≡ digest_in48 v s
  unfolding digest_in48
  digest-cut s e f = f ∙ ap (λ (x : List ℕ). digest_of v x ++ zeros (48 - v.digest)) e
