-- What demand 3 says against programs that would keep weaker promises.
use Prim.Native.Nat.{ℕ}
use mathlib.Core.Bool.{Bool, true, false, cond}
use mathlib.Core.List.{List, [], ◌∷◌}
use mathlib.Core.Path.{◌≡◌, refl, ap, sym, ◌∙◌}
use lib.Dec.{eqb}
use borrow.Author.Tests.{eqb-true}
use Rattle.refusal.proofs.Laws.{and-true}
use Rattle.buffer.specs.Buffer.{zeros, placed}
use Rattle.suite.specs.Suite.{known}
use Rattle.schedule.specs.Schedule.{early_secret}
use Rattle.session.specs.declared.Session.{Session}
use Rattle.book.specs.Call.{Call}
use Rattle.book.specs.Call.Call.{Begin}
use Rattle.book.specs.Book.{blank_at, fresh, note}
use Rattle.book.specs.Refusals.{number}
use Rattle.session.specs.Promise.{Reply}
use Rattle.book.proofs.Accepted.{next-accepted}
use Rattle.session.proofs.Fields.{chain_is}
use Rattle.book.proofs.Moves.{begin_accepted}
use Rattle.opening_stage.proofs.Step.{begun_chain}
use Rattle.history.specs.Places.{Place, lies, value, kind_of, sets, zeroes, held}
use Rattle.history.specs.Places.Place.{chain}
use Rattle.history.specs.Histories.{Event, Run, calls, givens, kept, all_accepted, book_after, replies, fresh_session, book_of}
use Rattle.history.proofs.Runs.{nil-cons, head_is, kept_book, kept-answers}
use Rattle.history.proofs.Histories.{demand3}

-- One that derives a secret before its call: a place that no accepted call sets is zero.
pub data NoneSets (p : Place) : List Call → Type 0 where
  none : NoneSets p []
  nor : {c : Call} {cs : List Call} → sets p c ≡ false → NoneSets p cs → NoneSets p (c ∷ cs)

stays_false : (z s : Bool) → s ≡ false → cond z false (cond s true false) ≡ false
stays_false true s e = refl
stays_false false s e = rw e

not-held : (p : Place) {cs : List Call} → NoneSets p cs → held p false cs ≡ false
unfolding held
not-held p none = refl
not-held p (nor {c = c} {cs = cs} e rest) = ap (λ (h : Bool). held p h cs) (stays_false (zeroes p c) (sets p c) e) ∙ not-held p
    rest

pub not_before_its_call : (events : List Event) (s : Session) → Run fresh_session events s → (p : Place)
    → NoneSets p (calls (kept events)) → lies p s ≡ zeros 48
not_before_its_call events s run p n = (demand3 events s run).places p ∙ rw (not-held p n)

-- so, after a Begin alone, every place but the chain and the binder key
pub only_begun : (events : List Event) (s : Session) → Run fresh_session events s → (suite kind : ℕ) (psk : List ℕ)
    → calls (kept events) ≡ Begin suite kind psk ∷ [] → (p : Place) → sets p (Begin suite kind psk) ≡ false → lies p s ≡ zeros
    48
only_begun events s run suite kind psk e p h =
    not_before_its_call events s run p (rw e (nor h none))

-- One that does nothing: an accepted Begin leaves the early secret in the chain's place.
module _ (suite kind : ℕ) (psk : List ℕ) where
  taken : (es : List Event) → all_accepted es ≡ true → calls es ≡ Begin suite kind psk ∷ []
      → givens es ≡ replies (blank_at fresh) (calls es) → number (blank_at fresh) (Begin suite kind psk) ≡ 0
  unfolding calls givens replies all_accepted
  taken [] a e g = absurd (nil-cons e)
  taken (v ∷ es) a e g =
      ap (λ (c : Call). number (blank_at fresh) c) (sym (head_is e)) ∙ sym (ap (λ (r : Reply). r.number) (head_is g))
      ∙ eqb-true v.given.number 0 (and-true (eqb v.given.number 0) (all_accepted es) a).0

  module _ (events : List Event) (s : Session) (run : Run fresh_session events s)
      (e : calls (kept events) ≡ Begin suite kind psk ∷ []) where
    begun_book : book_of events ≡ note (blank_at fresh) (Begin suite kind psk)
    unfolding book_after
    begun_book =
        let h = demand3 events s run in
        sym (kept_book (blank_at fresh) events h.answers)
        ∙ ap (book_after (blank_at fresh)) e
        ∙ next-accepted (blank_at fresh) (Begin suite kind psk)
        (taken (kept events) h.accepted e (kept-answers (blank_at fresh) events h.answers))

    pub begin_derives : s.chain ≡ placed (early_secret suite psk)
    unfolding lies held kind_of sets zeroes value
    begin_derives =
        (demand3 events s run).places chain ∙ rw (e, begun_book) (ap placed (begun_chain (blank_at fresh) suite kind psk))

    pub nothing-done : s ≡ fresh_session → placed (early_secret suite psk) ≡ zeros 48
    nothing-done f = sym begin_derives ∙ ap (λ (x : Session). x.chain) f ∙ chain_is (blank_at fresh)

-- One that refuses everything: a fresh session accepts a Begin without a PSK, whatever the suite.
pub not-refused : (suite : ℕ) (g : Reply) (s : Session) → known suite ≡ true
    → Run fresh_session (record { call = Begin suite 0 []; given = g } ∷ []) s → g.number ≡ 0
unfolding givens replies calls
not-refused suite g s h run =
    ap (λ (r : Reply). r.number) (head_is (demand3 _ s run).answers) ∙ begin_accepted suite h
