use Rattle.std.proofs.Common.{[], length, refl, sym, ap, ◌∙◌, append-nil, arith, rules}
use Rattle.buffer.specs.Buffer.{placed}
use Rattle.refusal.proofs.Laws.{answered-ok, answered-err}
use Rattle.hmac.specs.Rfc2104.{hmac}
use Rattle.hmac.proofs.Prepared.{mac_under, length-hmac}
use Rattle.hkdf.proofs.Calls.{mac_fits, written}
use Rattle.extract.proofs.hmac.Goals as goal

pub returns-in_err-judge : goal.returns-in_err-judge
returns-in_err-judge c = answered-err _ c.args.out.now c.in_err-judge.field-0.0 c.in_err-judge.ensures (search rules)

pub returns : goal.returns
returns c =
    let a = c.args in
    let m = a.message.now in
    let e = c.in_ok-judge.ensures in
    let h = c.hash_len-h.ensures.0 in
    let f = mac_fits a.suite (length a.key.now) (length m) (length a.out.now) e in
    let l = length-hmac a.suite a.key.now m in
    let t = mac_under a.suite a.key.now m [] [] (omega (arith, f.0)) c.prepare-k.ensures c.mac-t.ensures
    ∙ ap (λ x. placed (hmac a.suite a.key.now x)) (append-nil m) in
    answered-ok _ a.out.now e refl (h ∙ sym l) (written a.suite _ _ a.out.now h l f.1 t c.put.ensures.1)
