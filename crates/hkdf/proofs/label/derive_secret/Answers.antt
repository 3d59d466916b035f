use Rattle.std.proofs.Common.{length, sym, refl, ◌∙◌, arith, length-take, rules}
use Rattle.refusal.proofs.Laws.{answered-ok, answered-err}
use Rattle.hkdf.proofs.Calls.{derive_fits, derive_is, uncut, length-derive_secret}
use Rattle.hkdf.proofs.label.derive_secret.Goals as goal

pub returns-in_err-derive_secret : goal.returns-in_err-derive_secret
returns-in_err-derive_secret c =
    answered-err _ c.args.out.now c.in_err-derive_secret.field-0.0 c.in_err-derive_secret.ensures (search rules)

pub fill_label-requires : goal.fill_label-requires
fill_label-requires c =
    let a = c.args in
    let f = derive_fits a.suite (length a.secret.now) (length a.label.now) (length a.messages.now) (length a.out.now) c.in_ok-derive_secret.ensures in
    let h = c.hash_len-h in
    (f.0, simp length-take (omega (arith, h.ensures.1)), omega (arith, h.ensures.0), omega (arith, h.ensures.0, f.2))

pub returns : goal.returns
returns c =
    let a = c.args in
    let f = derive_fits a.suite (length a.secret.now) (length a.label.now) (length a.messages.now) (length a.out.now) c.in_ok-derive_secret.ensures in
    let h = c.hash_len-h.ensures.0 in
    let d = uncut a.suite a.messages.now f.1 c.digest-context.ensures in
    answered-ok _ a.out.now c.in_ok-derive_secret.ensures refl (h ∙ sym (length-derive_secret _ _ _ _))
    (derive_is a.suite _ a.secret.now a.label.now a.messages.now a.out.now h d c.fill_label.ensures)
