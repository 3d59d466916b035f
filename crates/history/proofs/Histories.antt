-- Demand 3, for every list of calls.
use mathlib.Core.Bool.{Bool}
use mathlib.Core.List.{List}
use mathlib.Core.Path.{◌≡◌, refl, ap, sym, ◌∙◌}
use Rattle.session.specs.declared.Session.{Session}
use Rattle.book.specs.Call.{Call}
use Rattle.book.specs.Book.{Book, blank_at, fresh}
use Rattle.book.specs.Refusals.Reached.{start}
use Rattle.session.specs.Session.{place, session_of}
use Rattle.history.specs.Places.{Place, lies, value, held, keys_place, export_place}
use Rattle.history.specs.Places.Place.{binder_key}
use Rattle.history.specs.Histories.{Event, Run, calls, givens, kept, book_after, replies, fresh_session, book_of, held_after, Demand3}
use Rattle.history.proofs.Runs.{same_events, run-session, run-answers, kept_book, kept-answers, kept-accepted, kept_run}
use Rattle.history.proofs.Held.{held_by, lies-by, fresh-held, held_along}
use Rattle.history.proofs.Named.{keys-held, export_held_lem, binder_held_lem}

pub demand3 : Demand3
demand3 events s run =
    record {
      answers = answered;
      accepted = kept-accepted events;
      replays = kept_run run;
      unique = λ again other run₂ same. (replayed again other run₂ same, ended again other run₂ same);
      places = λ p. ap (lies p) ends_as ∙ lies-by p book ∙ ap (λ (t : Bool). place t (value p book)) (by-table p);
      keys = λ name h k. keys-held book.point book.kind book.ran name h k ∙ by-table (keys_place name);
      exports = λ name h k. export_held_lem book.point book.kind book.ran name h k ∙ by-table (export_place name);
      binders = λ e. binder_held_lem book.point book.kind book.ran e ∙ by-table binder_key;
    }
  where
    book : Book
    book = book_of events

    answered : givens events ≡ replies (blank_at fresh) (calls events)
    answered = run-answers run (blank_at fresh) start refl

    ends_as : s ≡ session_of book
    ends_as = run-session run (blank_at fresh) start refl

    by-table : (p : Place) → held_by p book ≡ held_after p events
    by-table p =
        sym (held_along p (blank_at fresh) events answered) ∙ ap (λ (t : Bool). held p t (calls (kept events))) (fresh-held p)

    replayed : (again : List Event) (other : Session) → Run fresh_session again other → calls again ≡ calls (kept events) → again
        ≡ kept events
    replayed again other run₂ same =
        same_events again (kept events) same
        (run-answers run₂ (blank_at fresh) start refl ∙ ap (replies (blank_at fresh)) same ∙ sym
        (kept-answers (blank_at fresh) events answered))

    ended : (again : List Event) (other : Session) → Run fresh_session again other → calls again ≡ calls (kept events) → other ≡
        s
    ended again other run₂ same =
        run-session run₂ (blank_at fresh) start refl
        ∙ ap (λ (l : List Call). session_of (book_after (blank_at fresh) l)) same
        ∙ ap session_of (kept_book (blank_at fresh) events answered)
        ∙ sym ends_as
