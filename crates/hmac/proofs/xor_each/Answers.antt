use Rattle.hmac.proofs.Pads.{xor_in_place, length-xor}
use lib.Seq.{take_all}
use lib.ListN.{length-set}
use native.Mathlib.Omega.{arith}
use mathlib.Core.Path.{refl, sym, ◌∙◌}
use Rattle.hmac.proofs.xor_each.Goals as goal

pub loop-b-init : goal.loop-b-init
loop-b-init c = (refl, refl, refl)

pub loop-b-preserved : goal.loop-b-preserved
loop-b-preserved c =
    let l = c.loop-b in
    let a = c.args in
    let n = xor_in_place a.c a.block.now l.block {i = l.b-index} (omega arith) l.invariant.0 l.invariant.1 l.invariant.2 in
    (simp length-set l.invariant.0, n.0, n.1)

pub returns : goal.returns
returns c =
    let l = c.loop-b in
    let n = length-xor c.args.c c.args.block.now in
    sym (take_all l.b-index l.block (omega arith)) ∙ l.invariant.1 ∙ take_all l.b-index _ (omega arith)
