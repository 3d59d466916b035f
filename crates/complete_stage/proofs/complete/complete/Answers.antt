use mathlib.Core.Path.{refl}
use Rattle.std.proofs.Common.{rules}
use Rattle.book.specs.Call.Call.{Complete}
use Rattle.book.specs.Call.{lent}
use Rattle.session.specs.Values.{written, verdict}
use Rattle.session.proofs.Calls.{refused-plain, accepted-plain}
use Rattle.session.proofs.Decisions.{complete_is}
use Rattle.complete_stage.proofs.complete.complete.Goals as goal

pub returns-in_err-judge : goal.returns-in_err-judge
unfolding lent
returns-in_err-judge c = let a = c.args in
    refused-plain a.s Complete refl (complete_is a.s refl) c.in_err-judge.field-0.0 c.in_err-judge.ensures (search rules)

pub returns : goal.returns
unfolding lent written verdict
returns c = let a = c.args in
    accepted-plain a.s Complete refl (complete_is a.s refl) (λ b. refl) (λ b. refl) c.in_ok-judge.ensures refl
    (λ b r e y. c.complete_kept.ensures b _ r e y c.digest-hash.ensures c.resumption_secret-resumption.ensures)
