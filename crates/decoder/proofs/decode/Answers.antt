use mathlib.Core.Path.{refl}
use native.Mathlib.Omega.{arith}
use Rattle.book.specs.Book.{blank_at, fresh}
use Rattle.session.specs.Session.{session_of}
use Rattle.decoder.proofs.Reading.{read, read_2, read_4}
use Rattle.decoder.proofs.decode.Goals as goal

pub returns : goal.returns
returns c =
    let b = c.args.b.now in
    let n = c.if-b-ne-SESSION_BYTES.false in
    read b (session_of (blank_at fresh)) n
    (read_2 b 0 (omega arith) c.part.ensures c.from_le_bytes.ensures) refl refl
    (read_2 b 4 (omega arith) c.part-2.ensures c.from_le_bytes-2.ensures)
    (read_2 b 6 (omega arith) c.part-3.ensures c.from_le_bytes-3.ensures)
    (read_4 b 8 (omega arith) c.part-4.ensures c.from_le_bytes-4.ensures)
    (read_4 b 12 (omega arith) c.part-5.ensures c.from_le_bytes-5.ensures) c.decode_running.ensures
    c.part-6.ensures c.part-7.ensures c.part-8.ensures c.part-9.ensures c.part-10.ensures
    c.part-11.ensures c.part-12.ensures c.part-13.ensures c.part-14.ensures c.part-15.ensures
