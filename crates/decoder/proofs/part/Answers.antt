use Prim.Native.Nat.{◌+◌, ◌-◌}
use mathlib.Core.Path.{ap, ◌∙◌}
use native.Mathlib.Omega.{arith}
use lib.ListN.{length}
use Rattle.buffer.proofs.Laws.{length-zeros}
use Rattle.decoder.proofs.Reading.{copied}
use Rattle.decoder.proofs.part.Goals as goal

pub returns : goal.returns
returns g c =
    let a = c.args in
    let n = g.row.N in
    copied n a.at a.b.now c.zeros-r.result {k = a.at + n - a.at} c.requires (ap length c.zeros-r.ensures ∙ length-zeros n)
    (omega arith) c.put.ensures.1
