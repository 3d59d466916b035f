-- Demand 3: what every list of calls from a fresh session gives.
use Rattle.std.specs.Prelude.{ℕ, ◌≤◌, Bool, true, false, cond, not, ◌&&◌, List, [], ◌∷◌, ◌≡◌, eqb}
use Rattle.session.specs.declared.Session.{Session}
use Rattle.book.specs.Call.{Call}
use Rattle.book.specs.Book.{Book, blank_at, fresh, early}
use Rattle.book.specs.Refusals.{next, keys_held, export_held}
use Rattle.session.specs.Session.{place, session_of}
use Rattle.session.specs.Promise.{Reply, reply, Done}
use Rattle.history.specs.Places.{Place, lies, value, held, keys_place, export_place}
use Rattle.history.specs.Places.Place.{binder_key}

-- A call that was made, with its inputs and what lay in its lent output, and all that it answered.
pub record Event : Type 0 where
  pub call : Call
  pub given : Reply

-- A run from one session to another: each call gets the session that the last one left. What is known of each step is what
-- the calls' contracts promise.
pub data Run : Session → List Event → Session → Type 0 where
  ends : {s : Session} → Run s [] s
  goes : {s after end : Session} {c : Call} {g : Reply} {rest : List Event} → Done s c after g → Run after rest end
      → Run s (record { call = c; given = g } ∷ rest) end

unfoldable pub calls : List Event → List Call
calls [] = []
calls (e ∷ es) = e.call ∷ calls es

unfoldable pub givens : List Event → List Reply
givens [] = []
givens (e ∷ es) = e.given ∷ givens es

-- with exactly the refused calls struck out
unfoldable pub kept : List Event → List Event
kept [] = []
kept (e ∷ es) = cond (eqb e.given.number 0) (e ∷ kept es) (kept es)

-- whether all were accepted
unfoldable pub all_accepted : List Event → Bool
all_accepted [] = true
all_accepted (e ∷ es) = eqb e.given.number 0 && all_accepted es

-- The book after a list of calls, and what it answers on the way.
unfoldable pub book_after : Book → List Call → Book
book_after b [] = b
book_after b (c ∷ cs) = book_after (next b c) cs

unfoldable pub replies : Book → List Call → List Reply
replies b [] = []
replies b (c ∷ cs) = reply b c ∷ replies (next b c) cs

abbrev pub fresh_session : Session
fresh_session = session_of (blank_at fresh)

-- the book of a history: from the calls alone
abbrev pub book_of : List Event → Book
book_of events = book_after (blank_at fresh) (calls events)

-- whether the accepted calls of a history leave a place held
abbrev pub held_after : Place → List Event → Bool
held_after p events = held p false (calls (kept events))

pub record AsTheHistorySays (events : List Event) (s : Session) : Type 0 where
  -- each call answers as the book does
  pub answers : givens events ≡ replies (blank_at fresh) (calls events)
  -- the accepted calls, replayed on another fresh session, are accepted and answered the same, and that session ends equal;
  pub accepted : all_accepted (kept events) ≡ true
  pub replays : Run fresh_session (kept events) s
  -- no replay of them can give anything else
  pub unique : (again : List Event) (other : Session) → Run fresh_session again other → calls again ≡ calls (kept events)
      → (again ≡ kept events) × (other ≡ s)
  -- a place that is held has its RFC value, any other is zero
  pub places : (p : Place) → lies p s ≡ place (held_after p events) (value p (book_of events))
  -- and the next call of Keys, Export or Binder is refused with 3 by that same table (Binder where it is allowed)
  pub keys : (name : ℕ) → 1 ≤ name → name ≤ 5
      → keys_held (book_of events).point (book_of events).ran name ≡ held_after (keys_place name) events
  pub exports : (name : ℕ) → 1 ≤ name → name ≤ 2
      → export_held (book_of events).point (book_of events).ran name ≡ held_after (export_place name) events
  pub binders : (book_of events).point ≡ early → not (eqb (book_of events).kind 0) ≡ held_after binder_key events

abbrev pub Demand3 : Type 0
Demand3 = (events : List Event) (s : Session) → Run fresh_session events s → AsTheHistorySays events s
