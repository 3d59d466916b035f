-- What a call did, from what its code did: one law for every refusal, one for every acceptance.
use Prim.Native.Nat.{ℕ, ◌≤◌, min, zero-le}
use mathlib.Core.Bool.{Bool, false, cond}
use mathlib.Core.List.{List, []}
use mathlib.Core.Path.{◌≡◌, refl, sym, ap, ◌∙◌, subst}
use native.Mathlib.Omega.{arith}
use lib.Dec.{eqb}
use lib.ListN.{length, drop, length-append, length-drop}
use lib.Seq.{drop-append_seam}
use borrow.Author.Tests.{eq-eqb, ne_eqb}
use Rattle.buffer.specs.Buffer.{fronted}
use Rattle.std.proofs.Common.{Result, Ok, Err}
use Rattle.refusal.specs.declared.Refusal.{Refusal}
use Rattle.refusal.specs.Refusal.{Answer, number_of}
use Rattle.refusal.specs.Refusal as Refusal
use Rattle.refusal.proofs.Laws.{number_of-some}
use Rattle.session.specs.declared.Session.{Session}
use Rattle.book.specs.Call.{Call, lent}
use Rattle.book.specs.Call.Call.{Close}
use Rattle.book.specs.Book.{Book, note}
use Rattle.book.specs.Refusals.{number, Reached}
use Rattle.session.specs.Values.{written, verdict}
use Rattle.session.specs.Session.{session_of}
use Rattle.session.specs.Promise.{Reply, reply, Done, after, plain, wrote}
use Rattle.book.proofs.Accepted.{next-refused, next-accepted}

-- the reply of the book, when it refuses and when it accepts
reply_if : Book → Call → Bool → Reply
reply_if b c t =
    record {
      number = number b c;
      count = cond t (length (written b c)) 0;
      verdict = cond t (verdict b c) false;
      output = cond t
          (fronted (written b c) (lent c)) (lent c);
    }

refused-reply : (b : Book) (c : Call) (n k : ℕ) → n ≡ number b c → k ≡ 0 → (n ≡ 0 → ⊥)
    → ◌≡◌ {A = Reply} (record { number = n; count = k; verdict = false; output = lent c }) (reply b c)
unfolding reply_if
refused-reply b c n k is none some =
    let e : eqb (number b c) 0 ≡ false = ne_eqb (number b c) 0 (λ z. some (is ∙ z)) in
    (λ i. record { number = is i; count = none i; verdict = false; output = lent c }) ∙ sym (ap (reply_if b c) e)

-- a call that decided n, not 0, and left everything as it was
pub refused : (s : Session) (c : Call) (n k : ℕ) → ((b : Book) → Reached b → s ≡ session_of b → n ≡ number b c) → (n ≡ 0 → ⊥) → k
    ≡ 0
    → Done s c s (record { number = n; count = k; verdict = false; output = lent c })
refused s c n k is some none =
    record {
      unchanged = λ h. (refl, none, refl, refl);
      fits = subst (λ (j : ℕ). j ≤ length (lent c)) (sym none) zero-le;
      size = refl;
      beyond = refl;
      session = λ b reached e. e ∙ ap session_of (sym (next-refused b c (λ z. some (is b reached e ∙ z))));
      answer = λ b reached e. refused-reply b c n k (is b reached e) none some;
    }

-- bytes at the front of a lent output change nothing behind them
front_size : (K old new : List ℕ) (n : ℕ) → n ≡ length K → n ≤ length old → new ≡ fronted K old → length new ≡ length old
unfolding fronted
front_size K old new n e h w = let l = length-drop (length K) old in rw (w, length-append K (drop (length K) old)) (omega arith)

front_beyond : (K old new : List ℕ) (n : ℕ) → n ≡ length K → new ≡ fronted K old → drop n new ≡ drop n old
unfolding fronted
front_beyond K old new n e w = rw (w, e, drop-append_seam K (drop (length K) old))

accepted-reply : (b : Book) (c : Call) {K : List ℕ} {n k : ℕ} {v : Bool} {output : List ℕ} → number b c ≡ 0 → n ≡ 0 → k ≡ length
    K → K ≡ written b c
    → v ≡ verdict b c → output ≡ fronted K (lent c)
    → ◌≡◌ {A = Reply} (record { number = n; count = k; verdict = v; output = output }) (reply b c)
unfolding reply_if
accepted-reply b c zero en ek e_kind ev eo =
    (λ i. record {
      number = (en ∙ sym zero) i;
      count = (ek ∙ ap length e_kind) i;
      verdict = ev i;
      output =
          (eo ∙ ap (λ (l : List ℕ). fronted l (lent c)) e_kind) i;
    })
    ∙ sym (ap (reply_if b c) (eq-eqb (number b c) 0 zero))

-- a call that decided 0 and wrote K to the front of its lent output; K has a meaning on any session, and is the book's
-- where the session is a book's
pub accepted : (s : Session) (c : Call) (after : Session) (K : List ℕ) (n k : ℕ) (v : Bool) (output : List ℕ)
    → ((b : Book) → Reached b → s ≡ session_of b → number b c ≡ 0)
    → ((b : Book) → Reached b → s ≡ session_of b → number b c ≡ 0 → after ≡ session_of (note b c))
    → ((b : Book) → Reached b → s ≡ session_of b → number b c ≡ 0 → (K ≡ written b c) × (v ≡ verdict b c))
    → n ≡ 0 → k ≡ length K → output ≡ fronted K (lent c) → k ≤ length (lent c)
    → Done s c after (record { number = n; count = k; verdict = v; output = output })
accepted s c after K n k v output is to values en ek eo fits =
    record {
      unchanged = λ h. absurd (h en);
      fits = fits;
      size = front_size K (lent c) output k ek fits eo;
      beyond = front_beyond K (lent c) output k ek eo;
      session = λ b reached e. to b reached e (is b reached e) ∙ ap session_of (sym (next-accepted b c (is b reached e)));
      answer = λ b reached e. let w = values b reached e (is b reached e) in accepted-reply b c (is b reached e) en ek w.0
          w.1 eo;
    }

-- a call that writes nothing and is accepted
pub accepted-silent : (s : Session) (c : Call) (next : Session) → lent c ≡ [] → ((b : Book) → written b c ≡ [])
    → ((b : Book) → verdict b c ≡ false) → ((b : Book) → Reached b → s ≡ session_of b → number b c ≡ 0)
    → ((b : Book) → Reached b → s ≡ session_of b → number b c ≡ 0 → next ≡ session_of (note b c))
    → Done s c next (record { number = 0; count = 0; verdict = false; output = [] })
unfolding fronted
accepted-silent s c next none wrote says is to =
    accepted s c next [] 0 0 false [] is to (λ b r p z. (sym (wrote b), sym (says b))) refl refl
    (ap (λ (l : List ℕ). drop 0 l) (sym none)) zero-le

-- a call that writes nothing, by its decision n: refused, or accepted with the session next after it
module _ (s : Session) (c : Call) {n : ℕ} {r : Result Session Refusal} (none : lent c ≡ [])
    (is : (b : Book) → Reached b → s ≡ session_of b → n ≡ number b c) where
  pub refused-plain : (e : Refusal) → number_of e ≡ n → r ≡ Err e → Done s c (after s r) (plain r)
  refused-plain e en er =
      subst (λ (x : Result Session Refusal). Done s c (after s x) (plain x)) (sym er)
      (subst (λ (l : List ℕ). Done s c s (record { number = number_of e; count = 0; verdict = false; output = l })) none
      (refused s c (number_of e) 0 (λ b h p. en ∙ is b h p) (number_of-some e) refl))

  pub accepted-plain : {next : Session} → ((b : Book) → written b c ≡ []) → ((b : Book) → verdict b c ≡ false) → 0 ≡ n
      → r ≡ Ok next → ((b : Book) → Reached b → s ≡ session_of b → number b c ≡ 0 → next ≡ session_of (note b c))
      → Done s c (after s r) (plain r)
  accepted-plain {next} wrote says z er to =
      subst (λ (x : Result Session Refusal). Done s c (after s x) (plain x)) (sym er)
      (accepted-silent s c next none wrote says (λ b h p. sym (is b h p) ∙ sym z) to)

-- Close lends no output, so what it counts is none: its reply is that of a call that writes nothing.
pub closed_plain : {s next : Session} {k : ℕ} → Done s Close next (wrote (Ok k) []) → Done s Close next (plain (Ok next))
unfolding lent
closed_plain {s} {next} {k} d =
    let none : k ≡ 0 = omega (arith, d.fits) in
    subst (λ (n : ℕ). Done s Close next (wrote (Ok n) [])) none d
