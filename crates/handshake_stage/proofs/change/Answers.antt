use mathlib.Core.Path.{refl, sym, ◌∙◌, subst}
use native.Mathlib.Omega.{arith}
use Rattle.book.specs.Call.Call.{Handshake}
use Rattle.book.specs.Call.{lent}
use Rattle.session.specs.declared.Session.{Session}
use Rattle.session.specs.Values.{written, verdict}
use Rattle.session.proofs.Decisions.{handshake_is}
use Rattle.std.proofs.Common.{rules}
use Rattle.lent.proofs.Calls.{not-kept, kept}
use Rattle.handshake_stage.specs.Kept.{HandshakeKept}
use Rattle.handshake_stage.proofs.change.Goals as goal

pub returns-in_err-judge : goal.returns-in_err-judge
unfolding lent
returns-in_err-judge c = let a = c.args in
    not-kept a.session.now (Handshake a.group a.secret.now) c.requires
    (λ i. omega (arith, c.slice_known-1.given i)) c.decode-before.ensures refl
    (handshake_is c.decode-before.result a.group a.secret.now refl)
    c.in_err-judge.field-0.0 c.in_err-judge.ensures (search rules)

pub returns : goal.returns
unfolding lent written verdict
returns c = let a = c.args in
    let s = c.decode-before in
    let k = c.handshake_kept-after in
    let made = c.handshake_secrets-made in
    kept a.session.now (Handshake a.group a.secret.now) c.requires
    (λ i. omega (arith, c.slice_known-1.given i)) s.ensures refl (handshake_is s.result a.group a.secret.now refl) (λ b. refl) (λ b. refl) c.in_ok-judge.ensures refl
    (λ b r e y.
    subst (λ (x : Session). HandshakeKept x c.handshake_secret-chain.result made.result.client made.result.server k.result)
    (c.decode.ensures ∙ sym s.ensures) k.ensures b a.group a.secret.now _ r e y
    c.digest-hash.ensures c.handshake_secret-chain.ensures made.ensures.0 made.ensures.1)
    c.encode.ensures
