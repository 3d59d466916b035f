use Rattle.std.proofs.Common.{refl, rules}
use Rattle.outputs.proofs.Answers.{finished-refused, finished-done}
use Rattle.finished.proofs.finished.finished.Goals as goal

pub returns-in_err-judge_finished : goal.returns-in_err-judge_finished
returns-in_err-judge_finished c =
    let a = c.args in
    finished-refused a.s a.side a.out.now c.in_err-judge_finished.field-0.0 c.in_err-judge_finished.ensures (search rules)

pub returns : goal.returns
returns c =
    let a = c.args in
    finished-done a.s a.side a.out.now c.in_ok-judge_finished.ensures c.finished_value-value.ensures
    c.write_value-count.ensures refl
