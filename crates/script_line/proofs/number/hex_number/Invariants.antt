use Rattle.script_line.specs.Fields.{hex_on, hex_number}
use lib.ListN.{length, drop}
use Prim.Native.Nat.{◌^◌, ◌≤◌, ◌<◌}
use mathlib.Core.Path.{◌≡◌}
use Rattle.script_line.proofs.number.hex_number.Given as goal

abbrev pub invariant-loop-c : goal.invariant-loop-c
invariant-loop-c l =
    record {
      few : length l.s ≤ 4;
      small : l.n < 16 ^ l.c-index;
      read : hex_on l.n (drop l.c-index l.s) ≡ hex_number l.s;
    }
