use Rattle.std.proofs.Common.{length, sym, refl, rules}
use Rattle.refusal.proofs.Laws.{answered-ok, answered-err}
use Rattle.hkdf.proofs.Values.{length-expand}
use Rattle.hkdf.proofs.Labels.{alone_is, alone_size}
use Rattle.hkdf.proofs.Calls.{expand-fits}
use Rattle.hkdf.proofs.expand.expand.Goals as goal

pub returns-in_err-expand : goal.returns-in_err-expand
returns-in_err-expand c = answered-err _ c.args.out.now c.in_err-expand.field-0.0 c.in_err-expand.ensures (search rules)

pub fill-requires : goal.fill-requires
fill-requires c =
    let a = c.args in
    let f = expand-fits a.suite (length a.secret.now) (length a.info.now) a.asked (length a.out.now) c.in_ok-expand.ensures in
    (alone_size a.info.now f.0, f.1, f.2)

pub returns : goal.returns
returns c =
    let a = c.args in
    answered-ok _ a.out.now c.in_ok-expand.ensures refl (sym (length-expand _ _ _ _))
    (alone_is _ a.secret.now a.info.now a.asked a.out.now (c.fill.ensures a.secret.now c.prepare-k.ensures))
