-- Runs keep to the book, and so do their accepted calls alone.
use Prim.Native.Nat.{ℕ}
use mathlib.Core.Bool.{Bool, true, false, cond}
use mathlib.Core.List.{List, [], ◌∷◌}
use mathlib.Core.Path.{◌≡◌, refl, ap, sym, ◌∙◌, subst}
use native.Mathlib.Omega.{arith}
use lib.Dec.{eqb}
use borrow.Author.Tests.{eqb-false}
use Rattle.session.specs.declared.Session.{Session}
use Rattle.book.specs.Call.{Call}
use Rattle.book.specs.Book.{Book}
use Rattle.book.specs.Refusals.{Reached, next}
use Rattle.book.specs.Refusals.Reached.{more}
use Rattle.session.specs.Session.{session_of}
use Rattle.session.specs.Promise.{Reply, reply, Done}
use Rattle.book.proofs.Accepted.{next-refused}
use Rattle.history.specs.Histories.{Event, Run, calls, givens, kept, all_accepted, book_after, replies}
use Rattle.history.specs.Histories.Run.{ends, goes}

pub nil-cons : {A : Type 0} {x : A} {xs : List A} → [] ≡ x ∷ xs → ⊥
nil-cons e = let z : ◌≡◌ {A = ℕ} 0 1 = cc in omega arith

cons_same : {A : Type 0} {x y : A} {xs ys : List A} → x ≡ y → xs ≡ ys → x ∷ xs ≡ y ∷ ys
cons_same p q = cc

pub head_is : {A : Type 0} {x y : A} {xs ys : List A} → x ∷ xs ≡ y ∷ ys → x ≡ y
head_is e = cc

pub tail_is : {A : Type 0} {x y : A} {xs ys : List A} → x ∷ xs ≡ y ∷ ys → xs ≡ ys
tail_is e = cc

-- a list of events is its calls and its answers
same_event : (v w : Event) → v.call ≡ w.call → v.given ≡ w.given → v ≡ w
same_event v w p q = λ i. record { call = p i; given = q i }

pub same_events : (xs ys : List Event) → calls xs ≡ calls ys → givens xs ≡ givens ys → xs ≡ ys
unfolding calls givens
same_events [] [] p q = refl
same_events [] (y ∷ ys) p q = absurd (nil-cons p)
same_events (x ∷ xs) [] p q = absurd (nil-cons (sym p))
same_events (x ∷ xs) (y ∷ ys) p q =
    cons_same (same_event x y (head_is p) (head_is q)) (same_events xs ys (tail_is p) (tail_is q))

-- the session and the answers of a run are the book's
pub run-session : {s end : Session} {events : List Event} → Run s events end → (b : Book) → Reached b → s ≡ session_of b
    → end ≡ session_of (book_after b (calls events))
unfolding book_after calls
run-session ends b r e = e
run-session (goes {c = c} d rest) b r e = run-session rest (next b c) (more r c) (d.session b r e)

pub run-answers : {s end : Session} {events : List Event} → Run s events end → (b : Book) → Reached b → s ≡ session_of b
    → givens events ≡ replies b (calls events)
unfolding replies givens calls
run-answers ends b r e = refl
run-answers (goes {c = c} d rest) b r e =
    cons_same (d.answer b r e) (run-answers rest (next b c) (more r c) (d.session b r e))

-- refused by its answer, refused by the book
pub refused_too : (b : Book) (v : Event) → v.given ≡ reply b v.call → eqb v.given.number 0 ≡ false → next b v.call ≡ b
refused_too b v e h =
    next-refused b v.call (λ z. eqb-false v.given.number 0 h (ap (λ (g : Reply). g.number) e ∙ z))

-- the kept calls lead the book to the same place
keep_one : (b : Book) (v : Event) (es : List Event) → v.given ≡ reply b v.call
    → book_after (next b v.call) (calls (kept es)) ≡ book_after (next b v.call) (calls es)
    → (t : Bool) → eqb v.given.number 0 ≡ t
    → book_after b (calls (cond t (v ∷ kept es) (kept es))) ≡ book_after (next b v.call) (calls es)
unfolding book_after calls
keep_one b v es e rest true h = rest
keep_one b v es e rest false h = ap (λ (a : Book). book_after a (calls (kept es))) (sym (refused_too b v e h)) ∙ rest

pub kept_book : (b : Book) (events : List Event) → givens events ≡ replies b (calls events)
    → book_after b (calls (kept events)) ≡ book_after b (calls events)
unfolding book_after calls givens replies kept
kept_book b [] e = refl
kept_book b (v ∷ es) e =
    keep_one b v es (head_is e) (kept_book (next b v.call) es (tail_is e)) (eqb v.given.number 0) refl

-- and it answers them as it did
answer_one : (b : Book) (v : Event) (es : List Event) → v.given ≡ reply b v.call
    → givens (kept es) ≡ replies (next b v.call) (calls (kept es))
    → (t : Bool) → eqb v.given.number 0 ≡ t
    → givens (cond t (v ∷ kept es) (kept es)) ≡ replies b (calls (cond t (v ∷ kept es) (kept es)))
unfolding replies givens calls
answer_one b v es e rest true h = cons_same e rest
answer_one b v es e rest false h = rest ∙ ap (λ (a : Book). replies a (calls (kept es))) (refused_too b v e h)

pub kept-answers : (b : Book) (events : List Event) → givens events ≡ replies b (calls events)
    → givens (kept events) ≡ replies b (calls (kept events))
unfolding calls givens replies kept
kept-answers b [] e = refl
kept-answers b (v ∷ es) e =
    answer_one b v es (head_is e) (kept-answers (next b v.call) es (tail_is e)) (eqb v.given.number 0) refl

-- the kept events are those of accepted calls
accepted_one : (v : Event) (es : List Event) → all_accepted (kept es) ≡ true → (t : Bool) → eqb v.given.number 0 ≡ t
    → all_accepted (cond t (v ∷ kept es) (kept es)) ≡ true
unfolding all_accepted
accepted_one v es rest true h = rw h rest
accepted_one v es rest false h = rest

pub kept-accepted : (events : List Event) → all_accepted (kept events) ≡ true
unfolding kept all_accepted
kept-accepted [] = refl
kept-accepted (v ∷ es) = accepted_one v es (kept-accepted es) (eqb v.given.number 0) refl

-- a refused call leaves the session, so that a run goes on without it
replay_one : {s after end : Session} {c : Call} {g : Reply} (es : List Event) → Done s c after g → Run after (kept es) end
    → (t : Bool) → eqb g.number 0 ≡ t → Run s (cond t (record { call = c; given = g } ∷ kept es) (kept es)) end
replay_one es d rest true h = goes d rest
replay_one {end = end} {g = g} es d rest false h =
    subst (λ (x : Session). Run x (kept es) end) (d.unchanged (eqb-false g.number 0 h)).0 rest

pub kept_run : {s end : Session} {events : List Event} → Run s events end → Run s (kept events) end
unfolding kept
kept_run ends = ends
kept_run (goes {g = g} {rest = es} d rest) = replay_one es d (kept_run rest) (eqb g.number 0) refl
