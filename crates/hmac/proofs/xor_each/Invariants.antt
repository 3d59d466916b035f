use Rattle.hmac.specs.Rfc2104.{xor_each}
use lib.ListN.{length, take, drop}
use mathlib.Core.Path.{◌≡◌}
use Rattle.hmac.proofs.xor_each.Given as goal

abbrev pub invariant-loop-b : goal.invariant-loop-b
invariant-loop-b l =
    (length l.block ≡ length l.initial.block) × (take l.b-index l.block ≡ take l.b-index (xor_each l.c l.initial.block)) × (drop l.b-index l.block ≡ drop l.b-index l.initial.block)
