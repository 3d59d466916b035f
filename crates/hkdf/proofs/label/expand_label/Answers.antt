use Rattle.std.proofs.Common.{length, sym, refl, rules}
use Rattle.refusal.proofs.Laws.{answered-ok, answered-err}
use Rattle.hkdf.proofs.Calls.{label-fits, length-expand_label}
use Rattle.hkdf.proofs.label.expand_label.Goals as goal

pub returns-in_err-expand_label : goal.returns-in_err-expand_label
returns-in_err-expand_label c =
    answered-err _ c.args.out.now c.in_err-expand_label.field-0.0 c.in_err-expand_label.ensures (search rules)

pub fill_label-requires : goal.fill_label-requires
fill_label-requires c =
    let a = c.args in
    label-fits a.suite (length a.secret.now) (length a.label.now) (length a.context.now) a.asked (length a.out.now) c.in_ok-expand_label.ensures

pub returns : goal.returns
returns c =
    answered-ok _ c.args.out.now c.in_ok-expand_label.ensures refl (sym (length-expand_label _ _ _ _ _)) c.fill_label.ensures
