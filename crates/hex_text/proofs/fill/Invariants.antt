use Rattle.hex_text.specs.Hex.{hex_run, unhex}
use Rattle.buffer.specs.Buffer.{overwrite, fronted}
use Rattle.std.specs.Iterator.Adapters.{enumerate_source, enumerate_count}
use Rattle.std.specs.Slice.Iter.{chunks_exact_rest, chunks_exact_size}
use lib.ListN.{length}
use Prim.Native.Nat.{◌*◌, ◌+◌, ◌≤◌}
use mathlib.Core.Path.{◌≡◌}
use Rattle.hex_text.proofs.fill.Given as goal

abbrev pub invariant-loop-i : goal.invariant-loop-i
invariant-loop-i l =
    let rest = chunks_exact_rest (enumerate_source l.i-iterator) in
    let i = enumerate_count l.i-iterator in
    record {
      pairs : chunks_exact_size (enumerate_source l.i-iterator) ≡ 2;
      digits : hex_run rest ≡ length rest;
      room : i * 2 + length rest ≤ length l.initial.out * 2;
      bytes : overwrite i (unhex rest) l.out ≡ fronted (unhex l.s) l.initial.out;
    }
