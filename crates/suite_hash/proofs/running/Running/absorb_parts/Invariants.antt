use Rattle.std.proofs.Common.{◌≡◌, take}
use Rattle.std.specs.List.{flat_map}
use Rattle.suite_hash.specs.Variants.{variant_of}
use Rattle.suite_hash.specs.Running.{absorbed}
use Rattle.suite_hash.proofs.running.Running.absorb_parts.Given as goal

abbrev pub invariant-loop-part : goal.invariant-loop-part
invariant-loop-part l = l.self ≡ absorbed (variant_of l.suite) l.initial.self (flat_map (λ part. part.now) (take l.part-index l.parts))
