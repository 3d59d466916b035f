use native.Mathlib.Omega.{arith}
use Rattle.encoder.proofs.Writing.{running_over}
use Rattle.encoder.proofs.put_running.Goals as goal

pub returns : goal.returns
returns c =
    running_over c.args.at c.args.out.now c.args.h.now c.requires (omega arith) c.put_words-a.ensures c.put-b.ensures
    c.to_le_bytes.ensures c.put.ensures
