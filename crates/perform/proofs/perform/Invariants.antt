use Prim.Native.Nat.{◌-◌}
use lib.ListN.{length}
use Rattle.perform.proofs.Performing.{Going}
use Rattle.perform.proofs.perform.Given as goal

abbrev pub invariant-loop-at : goal.invariant-loop-at
invariant-loop-at l = Going l.list l.initial.lent l.s l.at l.used l.lent

abbrev pub decreases-loop-at : goal.decreases-loop-at
decreases-loop-at l = length l.list - l.at
