use native.Mathlib.Omega.{arith}
use Rattle.encoder.proofs.Writing.{session_over}
use Rattle.encoder.proofs.encode.Goals as goal

pub returns : goal.returns
returns c =
    let s = c in
    session_over s.args.s s.args.out.now (omega arith) c.put_numbers-a.ensures c.put_running-b.ensures
    c.put_places.ensures
