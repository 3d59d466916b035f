use mathlib.Core.Path.{refl, sym, ◌∙◌, subst}
use native.Mathlib.Omega.{arith}
use Rattle.book.specs.Call.Call.{Application}
use Rattle.book.specs.Call.{lent}
use Rattle.session.specs.declared.Session.{Session}
use Rattle.session.specs.Values.{written, verdict}
use Rattle.session.proofs.Decisions.{application_is}
use Rattle.std.proofs.Common.{rules}
use Rattle.lent.proofs.Calls.{not-kept, kept}
use Rattle.application_stage.specs.Kept.{ApplicationKept}
use Rattle.application_stage.proofs.change.Goals as goal

pub returns-in_err-judge : goal.returns-in_err-judge
unfolding lent
returns-in_err-judge c =
    not-kept c.args.session.now Application c.requires (λ i. omega (arith, c.slice_known-1.given i))
    c.decode-before.ensures refl (application_is c.decode-before.result refl)
    c.in_err-judge.field-0.0 c.in_err-judge.ensures (search rules)

pub returns : goal.returns
unfolding lent written verdict
returns c = let s = c.decode-before in
    let k = c.application_kept-after in
    let made = c.application_secrets-made in
    let chain = c.master_secret-chain in
    kept c.args.session.now Application c.requires (λ i. omega (arith, c.slice_known-1.given i))
    s.ensures refl (application_is s.result refl) (λ b. refl) (λ b. refl) c.in_ok-judge.ensures refl
    (λ b r e y.
    subst
    (λ (x : Session). ApplicationKept x chain.result made.result.client made.result.server made.result.exporter
    k.result)
    (c.decode.ensures ∙ sym s.ensures) k.ensures b _ r e y c.digest-hash.ensures chain.ensures
    made.ensures.0 made.ensures.1 made.ensures.2)
    c.encode.ensures
