-- What a call on a session promises, said of the session's bytes. Once for every call.
use Prim.Native.Nat.{ℕ}
use mathlib.Core.Bool.{false, cond}
use mathlib.Core.Path.{◌≡◌, refl, sym, ap, ◌∙◌, subst}
use mathlib.Core.List.{List, []}
use lib.ListN.{length}
use lib.Dec.{eqb}
use borrow.Author.Tests.{eq-eqb}
use Rattle.buffer.specs.Buffer.{Bytes}
use Rattle.std.proofs.Common.{Result, Ok, Err}
use Rattle.refusal.specs.declared.Refusal.{Refusal}
use Rattle.refusal.specs.Refusal.{number_of}
use Rattle.refusal.specs.Refusal as Refusal
use Rattle.refusal.proofs.Laws.{number_of-some}
use Rattle.book.specs.Call.{Call, lent}
use Rattle.book.specs.Book.{Book, blank_at, fresh, note}
use Rattle.book.specs.Refusals.{number, Reached}
use Rattle.session.specs.declared.Session.{Session}
use Rattle.session.specs.Session.{session_of}
use Rattle.session.specs.Values.{written, verdict}
use Rattle.session.specs.Promise.{Reply, Done, after, plain}
use Rattle.session.proofs.Calls.{refused, accepted-silent}
use Rattle.encoding.specs.Encoding.{session_bytes, encoded, decoded}
use Rattle.lent.specs.Called.{Called, not_a_session, numbered, counted, stored}
use Rattle.encoding.proofs.Inverse.{encodes_what_it_decodes}

pub wrong_size_lem : (before : List ℕ) (c : Call) (out : List ℕ) → (length before ≡ session_bytes → ⊥) → Called before c out before (counted not_a_session 0 out)
wrong_size_lem before c out h = record { another_size = λ _. (refl, refl); called = λ n. absurd (h n); refused = λ _. refl }

module _ (before : List ℕ) (c : Call) {s : Session} (size : length before ≡ session_bytes) (y : Bytes before)
    (e : s ≡ cond (eqb (length before) session_bytes) (decoded before) (session_of (blank_at fresh))) where
  taken : s ≡ decoded before
  taken = rw (eq-eqb _ _ size) at e

  -- a call that only reads
  pub reading : (out : List ℕ) (given : Reply) → Done s c s given → Called before c out before given
  reading out given d =
      record {
        another_size = λ h. absurd (h size);
        called = λ _. (decoded before, subst (λ (x : Session). Done x c x given) taken d, sym (encodes_what_it_decodes before size y));
        refused = λ _. refl;
      }

  done : (t : Session) {k r : ℕ} → r ≡ k → Done s c t (numbered k) → Done (decoded before) c t (numbered r)
  done t {r = r} er d =
      subst (λ (x : Session). Done x c t (numbered r)) taken (subst (λ (m : ℕ). Done s c t (numbered m)) (sym er) d)

  -- a call that may change the session
  pub changing : (o : Result Session Refusal) {bytes : List ℕ} {r : ℕ} → Done s c (after s o) (plain o) → r ≡ Refusal.number o
      → bytes ≡ stored o before → Called before c [] bytes (numbered r)
  changing (Ok next) d er eb =
      record {
        another_size = λ h. absurd (h size);
        called = λ _. (next, done next er d, rw (eq-eqb _ _ size) at eb);
        refused = λ h. absurd (h er);
      }
  changing (Err why) d er eb =
      record {
        another_size = λ h. absurd (h size);
        called = λ _. (s, done s er d, eb ∙ sym (encodes_what_it_decodes before size y) ∙ ap encoded (sym taken));
        refused = λ _. eb;
      }

  -- a call that lends no output, by its decision n and what its code gives back: refused, or accepted with the session t kept
  module _ {r : Result Unit Refusal} {n : ℕ} (none : lent c ≡ [])
      (is : (b : Book) → Reached b → s ≡ session_of b → n ≡ number b c) where
    pub not-kept : (why : Refusal) → number_of why ≡ n → r ≡ Err why → Called before c [] before (numbered (Refusal.number r))
    not-kept why en er =
        reading [] (numbered (Refusal.number r))
        (subst (λ (l : List ℕ). Done s c s (record { number = Refusal.number r; count = 0; verdict = false; output = l })) none
        (refused s c (Refusal.number r) 0 (λ b h p. ap Refusal.number er ∙ en ∙ is b h p)
        (λ z. number_of-some why (sym (ap Refusal.number er) ∙ z)) refl))

    pub kept : {t : Session} {bytes : List ℕ} → ((b : Book) → written b c ≡ []) → ((b : Book) → verdict b c ≡ false)
        → 0 ≡ n → r ≡ Ok tt → ((b : Book) → Reached b → s ≡ session_of b → number b c ≡ 0 → t ≡ session_of (note b c))
        → bytes ≡ cond (eqb (length before) session_bytes) (encoded t) before → Called before c [] bytes (numbered (Refusal.number r))
    kept {t} wrote says z er to eb =
        record {
          another_size = λ h. absurd (h size);
          called = λ _. (t, done t (ap Refusal.number er) (accepted-silent s c t none wrote says (λ b h p. sym (is b h p) ∙ sym z) to), rw (eq-eqb _ _ size) at eb);
          refused = λ h. absurd (h (ap Refusal.number er));
        }
