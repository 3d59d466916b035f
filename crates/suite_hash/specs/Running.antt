-- The running hash: a message that comes in parts. Its count is kept modulo 2 ^ 64, so that every value of it has a
-- next one; `proofs/Message` joins it to FIPS 180-4 for messages below 2 ^ 61 bytes.
use Rattle.std.specs.Prelude.{ℕ, ◌+◌, ◌-◌, ◌*◌, ◌/◌, ◌%◌, ◌^◌, cond, List, [], ◌∷◌, ◌++◌, length, take, drop, ◌==◌, slice_set}
use Rattle.buffer.specs.Buffer.{zeros}
use Rattle.fips180.specs.Variant.{Variant}
use Rattle.fips180.specs.Padding.{padding, words_of}
use Rattle.fips180.specs.Hash.{compress, hash_value}
use Rattle.fips180.specs.Rows.{cut, digest_in48}
use Rattle.suite_hash.specs.declared.running.Running.{Running}

-- the hash value of the whole blocks so far, the bytes since then with zeros behind them, the number of bytes so far
abbrev pub run : List ℕ → List ℕ → ℕ → Running
run state block count = record { state = state; block = block; count = count }

module _ (v : Variant) where
  -- before any byte
  unfoldable pub start : Running
  start = run v.H0 (zeros 128) 0

  -- one byte more: it goes to its place in the block, and a full block is compressed
  unfoldable pub step : Running → ℕ → Running
  step r b =
      let at = r.count % v.block in
      let block = slice_set r.block at b in
      let count = (r.count + 1) % 2 ^ 64 in
      cond (at + 1 == v.block)
      (run (compress v (cut v r.state) (words_of v 16 (take v.block block))) (zeros 128) count)
      (run r.state block count)

  unfoldable pub absorbed : Running → List ℕ → Running
  absorbed r [] = r
  absorbed r (b ∷ bs) = absorbed (step r b) bs

  -- the digest of what was absorbed, in 48 bytes with zeros behind it: that of the padding absorbed too
  unfoldable pub finished : Running → List ℕ
  finished r = digest_in48 v (absorbed r (padding v (r.count % 2 ^ 61))).state

  -- what FIPS 180-4 gives for the message m so far: the hash value of its whole blocks, and its tail
  unfoldable pub running_of : List ℕ → Running
  running_of m =
      let whole = length m / v.block in
      run (hash_value v m whole) (drop (whole * v.block) m ++ zeros (128 - length m % v.block)) (length m)
