use native.Mathlib.Omega.{arith}
use Rattle.encoding.specs.Encoding.{decoded_running}
use Rattle.decoder.proofs.Reading.{read_8}
use Rattle.decoder.proofs.decode_running.Goals as goal

pub returns : goal.returns
unfolding decoded_running
returns c =
    rw (c.words.ensures, c.part.ensures, read_8 c.args.b.now 208 (omega arith) c.part-2.ensures c.from_le_bytes.ensures)
