use mathlib.Core.Path.{refl}
use Rattle.std.proofs.Common.{rules}
use Rattle.book.specs.Call.Call.{Handshake}
use Rattle.book.specs.Call.{lent}
use Rattle.session.specs.Values.{written, verdict}
use Rattle.session.proofs.Calls.{refused-plain, accepted-plain}
use Rattle.session.proofs.Decisions.{handshake_is}
use Rattle.handshake_stage.proofs.handshake.Goals as goal

pub returns-in_err-judge : goal.returns-in_err-judge
unfolding lent
returns-in_err-judge c = let a = c.args in
    refused-plain a.s (Handshake a.group a.secret.now) refl (handshake_is a.s a.group a.secret.now refl) c.in_err-judge.field-0.0 c.in_err-judge.ensures (search rules)

pub returns : goal.returns
unfolding lent written verdict
returns c = let a = c.args in
    let made = c.handshake_secrets-made.ensures in
    accepted-plain a.s (Handshake a.group a.secret.now) refl (handshake_is a.s a.group a.secret.now refl) (λ b. refl) (λ b. refl) c.in_ok-judge.ensures refl
    (λ b r e y. c.handshake_kept.ensures b a.group a.secret.now _ r e y c.digest-hash.ensures c.handshake_secret-chain.ensures
    made.0 made.1)
