-- What a call that writes an output or judges promises, said of the session's bytes; and of a call below the session.
use Prim.Native.Nat.{ℕ}
use mathlib.Core.Bool.{Bool, true, false, cond}
use mathlib.Core.Path.{◌≡◌, refl, ◌∙◌}
use mathlib.Core.List.{List, []}
use lib.ListN.{length}
use lib.Dec.{eqb}
use Rattle.buffer.specs.Buffer.{Bytes}
use Rattle.refusal.specs.Refusal.{Answer}
use Rattle.refusal.specs.Verdict.{Verdict}
use Rattle.refusal.specs.Refusal as Refusal
use Rattle.refusal.specs.Answered.{Answered}
use Rattle.refusal.specs.Reported.{Reported}
use Rattle.refusal.specs.Verdict.{verdict_number, says_yes}
use Rattle.book.specs.Call.{Call}
use Rattle.book.specs.Book.{blank_at, fresh}
use Rattle.session.specs.declared.Session.{Session}
use Rattle.session.specs.Session.{session_of}
use Rattle.session.specs.Promise.{Done, wrote}
use Rattle.outputs.specs.Verdict.{judged}
use Rattle.encoding.specs.Encoding.{session_bytes, decoded}
use Rattle.lent.specs.Called.{Called, counted, judging}
use Rattle.lent.proofs.Calls.{reading}

module _ (before : List ℕ) (c : Call) {s : Session} (n : length before ≡ session_bytes) (y : Bytes before)
    (e : s ≡ cond (eqb (length before) session_bytes) (decoded before) (session_of (blank_at fresh))) where
  pub writing : (out output : List ℕ) (a : Answer) {r written : ℕ} → (r ≡ Refusal.number a) × (written ≡ Refusal.count a)
      → Done s c s (wrote a output) → Called before c out before (counted r written output)
  writing out output a {r} {written} w d = reading before c n y e out (counted r written output) (rw (w.0, w.1) d)

  pub saying : (v : Verdict) {r said : ℕ} → r ≡ verdict_number v → said ≡ cond (says_yes v) 1 0 → Done s c s (judged v)
      → Called before c [] before (judging r said)
  saying v {r} {said} er es d = reading before c n y e [] (judging r said) (rw (er, es, is_one (says_yes v)) d)
    where
      is_one : (b : Bool) → eqb (cond b 1 0) 1 ≡ b
      is_one true = refl
      is_one false = refl

pub reported : {n : ℕ} {w out after : List ℕ} (a : Answer) {r written : ℕ} → Answered n w out a after
    → (r ≡ Refusal.number a) × (written ≡ Refusal.count a) → Reported n w out r written after
reported a d e = record { number = e.0 ∙ d.number; count = e.1 ∙ d.count; output = d.output }
