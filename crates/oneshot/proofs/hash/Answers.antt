use Rattle.std.proofs.Common.{rules}
use Rattle.refusal.proofs.Laws.{answered-err}
use Rattle.suite_hash.proofs.Whole.{hash-done}
use Rattle.oneshot.proofs.hash.Goals as goal

pub returns-in_err-judge : goal.returns-in_err-judge
returns-in_err-judge c = answered-err _ c.args.out.now c.in_err-judge.field-0.0 c.in_err-judge.ensures (search rules)

pub returns : goal.returns
returns c =
    let a = c.args in
    hash-done _ a.input.now a.out.now c.in_ok-judge.ensures c.hash_len-h.ensures.0 c.digest-d.ensures c.put.ensures.1
