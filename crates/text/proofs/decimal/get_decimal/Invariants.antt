use Rattle.text.specs.Decimal.{read_on, read_decimal, max_decimal}
use lib.ListN.{drop}
use Prim.Native.Nat.{◌≤◌}
use mathlib.Core.Path.{◌≡◌}
use Rattle.text.proofs.decimal.get_decimal.Given as goal

abbrev pub invariant-loop-c : goal.invariant-loop-c
invariant-loop-c l = (l.n ≤ max_decimal) × (read_on l.n (drop l.c-index l.s) ≡ read_decimal l.s)
