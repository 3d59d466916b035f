use mathlib.Core.Path.{refl, sym, ◌∙◌, subst}
use native.Mathlib.Omega.{arith}
use Rattle.book.specs.Call.Call.{Complete}
use Rattle.book.specs.Call.{lent}
use Rattle.session.specs.declared.Session.{Session}
use Rattle.session.specs.Values.{written, verdict}
use Rattle.session.proofs.Decisions.{complete_is}
use Rattle.std.proofs.Common.{rules}
use Rattle.lent.proofs.Calls.{not-kept, kept}
use Rattle.complete_stage.specs.Kept.{CompleteKept}
use Rattle.complete_stage.proofs.complete.change.Goals as goal

pub returns-in_err-judge : goal.returns-in_err-judge
unfolding lent
returns-in_err-judge c =
    not-kept c.args.session.now Complete c.requires (λ i. omega (arith, c.slice_known-1.given i))
    c.decode-before.ensures refl (complete_is c.decode-before.result refl)
    c.in_err-judge.field-0.0 c.in_err-judge.ensures (search rules)

pub returns : goal.returns
unfolding lent written verdict
returns c = let s = c.decode-before in
    let k = c.complete_kept-after in
    let made = c.resumption_secret-resumption in
    kept c.args.session.now Complete c.requires (λ i. omega (arith, c.slice_known-1.given i))
    s.ensures refl (complete_is s.result refl) (λ b. refl) (λ b. refl) c.in_ok-judge.ensures refl
    (λ b r e y. subst (λ (x : Session). CompleteKept x made.result k.result) (c.decode.ensures ∙ sym s.ensures) k.ensures b _
    r e y c.digest-hash.ensures made.ensures)
    c.encode.ensures
