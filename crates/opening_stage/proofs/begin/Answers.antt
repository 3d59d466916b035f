use mathlib.Core.Path.{refl}
use Rattle.std.proofs.Common.{rules}
use Rattle.book.specs.Call.Call.{Begin}
use Rattle.book.specs.Call.{lent}
use Rattle.session.specs.Values.{written, verdict}
use Rattle.session.proofs.Calls.{refused-plain, accepted-plain}
use Rattle.session.proofs.Decisions.{begin_is, begin_taken}
use Rattle.opening_stage.proofs.Step.{begun}
use Rattle.opening_stage.proofs.begin.Goals as goal

pub returns-in_err-judge : goal.returns-in_err-judge
unfolding lent
returns-in_err-judge c = let a = c.args in
    refused-plain a.s (Begin a.suite a.kind a.psk.now) refl (begin_is a.s a.suite a.kind a.psk.now refl)
    c.in_err-judge.field-0.0 c.in_err-judge.ensures (search rules)

pub returns : goal.returns
unfolding lent written verdict
returns c = let a = c.args in
    accepted-plain a.s (Begin a.suite a.kind a.psk.now) refl (begin_is a.s a.suite a.kind a.psk.now refl)
    (λ b. refl) (λ b. refl) c.in_ok-judge.ensures refl
    (λ b r e y. let t = begin_taken b a.suite a.kind a.psk.now y in
    begun b a.suite a.kind a.psk.now _ c.fresh-next.ensures t.small
    c.early_secret-chain.ensures c.binder_place-binder.ensures c.start-transcript.ensures)
