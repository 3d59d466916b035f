use Rattle.hex_text.specs.Hex.{hex_of}
use Rattle.buffer.specs.Buffer.{overwrite}
use lib.ListN.{length, drop}
use Prim.Native.Nat.{◌+◌, ◌*◌, ◌≤◌}
use mathlib.Core.Path.{◌≡◌}
use Rattle.hex_text.proofs.put_hex.Given as goal

abbrev pub invariant-loop-i : goal.invariant-loop-i
invariant-loop-i l = (l.at + length l.bytes * 2 ≤ length l.initial.out) × (overwrite (l.at + l.i * 2) (hex_of (drop l.i l.bytes)) l.out ≡ overwrite l.at (hex_of l.bytes) l.initial.out)
