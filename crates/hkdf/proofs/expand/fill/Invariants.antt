use Rattle.hkdf.proofs.Filling.{Filling, Filled}
use Rattle.hmac.specs.Keyed.{keyed_of}
use Rattle.suite.specs.Suite.{hash_length}
use mathlib.Core.Path.{◌≡◌}
use mathlib.Core.List.{List}
use Rattle.std.specs.List.{flat_map}
use lib.ListN.{length}
use Prim.Native.Nat.{ℕ, ◌*◌, ◌≤◌, min}
use Rattle.hkdf.proofs.expand.fill.Given as goal

abbrev pub invariant-loop-i : goal.invariant-loop-i
invariant-loop-i l =
    Filling l.suite l.asked l.initial.out l.h l.out l.t l.size l.i (min (l.i * l.h) l.asked)
    × ((secret : List ℕ) → l.k ≡ keyed_of l.suite secret → Filled l.suite secret (flat_map (λ part. part.now) l.info) l.initial.out l.out l.t l.size l.i (min (l.i * l.h) l.asked))
    × (length (flat_map (λ part. part.now) l.info) ≤ 1024) × (l.asked ≤ 255 * hash_length l.suite) × (l.asked ≤ length l.initial.out)
