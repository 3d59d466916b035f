use mathlib.Core.Bool.{Bool, true, false, cond}
use Prim.Native.Nat.{ℕ}
use mathlib.Core.Path.{◌≡◌, refl, sym, ap, ◌∙◌}
use native.Mathlib.Omega.{arith}
use mathlib.Core.List.{[]}
use Rattle.std.proofs.Common.{Ok}
use Rattle.book.specs.Call.Call.{Check}
use Rattle.refusal.specs.Verdict.{Verdict, verdict_number, says_yes}
use Rattle.lent.proofs.Calls.{wrong_size_lem}
use Rattle.ffi.proofs.Calls.{saying}
use Rattle.ffi.proofs.reading.bindcricket_check.Goals as goal

-- the number of a verdict, and the byte that says it
done : {v : Verdict} {b : Bool} {r : ℕ} → v ≡ Ok b → r ≡ 0 → r ≡ verdict_number v
done e z = z ∙ sym (ap verdict_number e)

told : {v : Verdict} (b : Bool) {said : ℕ} → v ≡ Ok b → (b ≡ true → said ≡ 1) → (b ≡ false → said ≡ 0) → said ≡ cond (says_yes v) 1 0
told true e one none = one refl ∙ sym (ap (λ (v : Verdict). cond (says_yes v) 1 0) e)
told false e one none = none refl ∙ sym (ap (λ (v : Verdict). cond (says_yes v) 1 0) e)

pub returns-then-session-ne-SESSION_BYTES : goal.returns-then-session-ne-SESSION_BYTES
returns-then-session-ne-SESSION_BYTES c = wrong_size_lem c.args.session.now (Check _ c.args.received.now) [] c.if-session-ne-SESSION_BYTES.true

pub returns-in-Ok : goal.returns-in-Ok
returns-in-Ok c =
    saying c.args.session.now (Check _ c.args.received.now) c.if-session-ne-SESSION_BYTES.false (λ i. omega (arith, c.shared_slice_known-1.given i))
    c.decode.ensures c.check.result (done c.in-Ok.is (omega arith)) (told _ c.in-Ok.is (λ e. rw e refl) (λ e. rw e refl)) c.check.ensures

pub returns-in-Err : goal.returns-in-Err
returns-in-Err c =
    saying c.args.session.now (Check _ c.args.received.now) c.if-session-ne-SESSION_BYTES.false (λ i. omega (arith, c.shared_slice_known-1.given i))
    c.decode.ensures c.check.result (c.number.ensures ∙ sym (ap verdict_number c.in-Err.is))
    (sym (ap (λ (v : Verdict). cond (says_yes v) 1 0) c.in-Err.is)) c.check.ensures
