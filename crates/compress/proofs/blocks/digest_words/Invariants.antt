use Rattle.std.proofs.Common.{◌≡◌, ◌-◌, ◌++◌, map}
use Rattle.buffer.specs.Buffer.{zeros}
use Rattle.fips180.proofs.Digest.{digest_bytes}
use Rattle.compress.proofs.blocks.digest_words.Given as goal

abbrev pub invariant-loop-i : goal.invariant-loop-i
invariant-loop-i g l = l.d ≡ digest_bytes g.V.Sha2.variant (map g.V.Sha2.value l.s) l.i ++ zeros (48 - l.i)
