use mathlib.Core.Path.{refl}
use Rattle.std.proofs.Common.{rules}
use Rattle.book.specs.Call.Call.{Application}
use Rattle.book.specs.Call.{lent}
use Rattle.session.specs.Values.{written, verdict}
use Rattle.session.proofs.Calls.{refused-plain, accepted-plain}
use Rattle.session.proofs.Decisions.{application_is}
use Rattle.application_stage.proofs.application.Goals as goal

pub returns-in_err-judge : goal.returns-in_err-judge
unfolding lent
returns-in_err-judge c = let a = c.args in
    refused-plain a.s Application refl (application_is a.s refl) c.in_err-judge.field-0.0 c.in_err-judge.ensures (search rules)

pub returns : goal.returns
unfolding lent written verdict
returns c = let a = c.args in
    let made = c.application_secrets-made.ensures in
    accepted-plain a.s Application refl (application_is a.s refl) (λ b. refl) (λ b. refl) c.in_ok-judge.ensures refl
    (λ b r e y. c.application_kept.ensures b _ r e y c.digest-hash.ensures c.master_secret-chain.ensures made.0 made.1 made.2)
