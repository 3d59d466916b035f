use Rattle.std.proofs.Common.{rules, ◌≡◌, ℕ, Bool, Ok, [], arith}
use Rattle.std.proofs.lemmas.Grind.{common_steps}
use Rattle.book.specs.Call.{Call}
use Rattle.book.specs.Call.Call.{Check}
use Rattle.refusal.specs.Verdict.{verdict_number}
use Rattle.session.specs.declared.Session.{Session}
use Rattle.session.specs.Promise.{Done}
use Rattle.outputs.specs.Verdict.{judged}
use Rattle.outputs.proofs.Answers.{check_refused, checked}
use Rattle.finished.proofs.check.check.Goals as goal

pub returns-in_err-judge_check : goal.returns-in_err-judge_check
returns-in_err-judge_check c =
    let a = c.args in
    check_refused a.s a.side a.received.now c.in_err-judge_check.field-0.0 c.in_err-judge_check.ensures (search rules)

-- a verdict that is worked out as b
answered : (s : Session) (call : Call) (b : Bool) {n : ℕ} {yes : Bool} → n ≡ verdict_number (Ok b) → yes ≡ b → Done s call s (judged (Ok b))
    → Done s call s record { number = n; count = 0; verdict = yes; output = [] }
answered s call b en ey d = rw (en, ey) d

pub returns : goal.returns
returns c =
    let a = c.args in
    answered a.s (Check a.side a.received.now) c.is_same.result (grind (arith, common_steps)) (grind (arith, common_steps))
    (checked a.s a.side a.received.now c.in_ok-judge_check.ensures c.hash_len-h.ensures.0 c.finished_value-value.ensures
    c.is_same.ensures)
