use Rattle.std.proofs.Common.{refl, rules}
use Rattle.outputs.proofs.Answers.{binder_refused, binder_done}
use Rattle.finished.proofs.binder.binder.Goals as goal

pub returns-in_err-judge_binder : goal.returns-in_err-judge_binder
returns-in_err-judge_binder c =
    let a = c.args in
    binder_refused a.s a.hello.now a.out.now c.in_err-judge_binder.field-0.0 c.in_err-judge_binder.ensures (search rules)

pub returns : goal.returns
returns c =
    let a = c.args in
    binder_done a.s a.hello.now a.out.now c.in_ok-judge_binder.ensures c.messages_hash-hash.ensures
    c.verify_data-value.ensures c.write_value-count.ensures refl
