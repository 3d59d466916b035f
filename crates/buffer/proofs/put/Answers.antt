use Rattle.std.proofs.Common.{◌≡◌, length, sym, ◌∙◌, arith}
use Rattle.std.proofs.Math.Seq.{paste-zero}
use Rattle.std.proofs.lemmas.List.Edits.{paste_more}
use Rattle.buffer.proofs.Laws.{after_none, behind-none, behind-fits, patched}
use Rattle.buffer.proofs.put.Goals as goal

pub returns-then-dst-at : goal.returns-then-dst-at
returns-then-dst-at c = (sym (behind-none _ _ _ (omega arith)), sym (after_none _ _ _ (omega arith)))

pub returns-then-dst-at-2 : goal.returns-then-dst-at-2
returns-then-dst-at-2 c = (sym (behind-none _ _ _ (omega arith)), sym (after_none _ _ _ (omega arith)))

pub loop-i-init : goal.loop-i-init
loop-i-init c = (omega arith, paste-zero c.args.dst.now c.args.at c.args.src.now)

pub loop-i-preserved : goal.loop-i-preserved
loop-i-preserved c =
    let i = c.loop-i.invariant in
    (omega arith, rw (i.1) (paste_more c.args.dst.now c.args.at c.args.src.now c.loop-i.i 0 (omega arith) (omega arith)))

pub returns : goal.returns
returns c =
    let all : c.loop-i.i ≡ length c.args.src.now = omega arith in
    (sym (behind-fits _ _ _ (omega arith)), c.loop-i.invariant.1 ∙ patched _ _ _ all (omega arith))
