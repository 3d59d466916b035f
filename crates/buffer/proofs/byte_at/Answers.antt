use Rattle.std.proofs.Common.{sym, arith}
use Rattle.std.proofs.Math.ListN.{get_or-eq_default}
use Rattle.buffer.proofs.byte_at.Goals as goal

pub returns-else-i-src : goal.returns-else-i-src
returns-else-i-src c = sym (get_or-eq_default c.args.src.now 0 {n = c.args.i} (omega arith))
