-- The place table over the accepted calls comes to a test of the point, the PSK kind and whether Early ran.
use Prim.Native.Nat.{ℕ}
use mathlib.Core.Bool.{Bool, true, false, cond, not}
use mathlib.Core.List.{List, [], ◌∷◌}
use mathlib.Core.Path.{◌≡◌, refl, ap, sym, ◌∙◌}
use lib.Dec.{eqb}
use borrow.Author.Tests.{eqb-true}
use Rattle.refusal.proofs.Laws.{and-false}
use Rattle.book.specs.Call.{Call}
use Rattle.book.specs.Call.Call.{Begin, Feed, Early, Handshake, Application, Complete, Update, Close, Keys, Finished, Check, Binder, Export}
use Rattle.book.specs.Book.{Book}
use Rattle.book.specs.Held.{chain_held, binder_held, early_held, handshake_held, application_held, resumption_held}
use Rattle.book.specs.Refusals.{number, next}
use Rattle.session.specs.Session.{place, session_of}
use Rattle.session.specs.Promise.{Reply, reply}
use Rattle.book.proofs.Accepted.{next-accepted}
use Rattle.session.proofs.Fields.{chain_is, binder_key_is, client_early_is, early_exporter_is, client_handshake_is, server_handshake_is, client_application_is, server_application_is, exporter_is, resumption_is}
use Rattle.book.proofs.Moves.{Moves, moves}
use Rattle.book.proofs.Moves.Moves.{begins, feeds, runs, shakes, applies, completes, updates, closes, reads_keys, reads_finished, reads_check, reads_binder, reads_export}
use Rattle.history.specs.Places.{Place, lies, value, kind_of, sets, zeroes, held_now, held}
use Rattle.history.specs.Places.Place.{chain, binder_key, client_early, early_exporter, client_handshake, server_handshake, client_application, server_application, exporter, resumption}
use Rattle.history.specs.Histories.{Event, calls, givens, kept, book_after, replies}
use Rattle.history.proofs.Runs.{head_is, tail_is, refused_too}

-- whether a place is held at a point, with a PSK of a kind, when Early ran (1) or not (0)
unfoldable pub held_at : Place → ℕ → ℕ → ℕ → Bool
held_at chain point kind ran = chain_held point
held_at binder_key point kind ran = binder_held point kind
held_at client_early point kind ran = early_held point ran
held_at early_exporter point kind ran = early_held point ran
held_at client_handshake point kind ran = handshake_held point
held_at server_handshake point kind ran = handshake_held point
held_at client_application point kind ran = application_held point
held_at server_application point kind ran = application_held point
held_at exporter point kind ran = application_held point
held_at resumption point kind ran = resumption_held point

abbrev pub held_by : Place → Book → Bool
held_by p b = held_at p b.point b.kind b.ran

pub lies-by : (p : Place) (b : Book) → lies p (session_of b) ≡ place (held_by p b) (value p b)
unfolding lies held_at value
lies-by chain b = chain_is b
lies-by binder_key b = binder_key_is b
lies-by client_early b = client_early_is b
lies-by early_exporter b = early_exporter_is b
lies-by client_handshake b = client_handshake_is b
lies-by server_handshake b = server_handshake_is b
lies-by client_application b = client_application_is b
lies-by server_application b = server_application_is b
lies-by exporter b = exporter_is b
lies-by resumption b = resumption_is b

-- An accepted call changes that as the table says.
set_itself : (t : Bool) → cond t true false ≡ t
set_itself true = refl
set_itself false = refl

set_again : (t : Bool) → cond t true true ≡ true
set_again true = refl
set_again false = refl

every : (P : Place → Type 0) → P chain → P binder_key → P client_early → P early_exporter → P client_handshake → P
    server_handshake
    → P client_application → P server_application → P exporter → P resumption → (p : Place) → P p
every P a b c d e f g h i j chain = a
every P a b c d e f g h i j binder_key = b
every P a b c d e f g h i j client_early = c
every P a b c d e f g h i j early_exporter = d
every P a b c d e f g h i j client_handshake = e
every P a b c d e f g h i j server_handshake = f
every P a b c d e f g h i j client_application = g
every P a b c d e f g h i j server_application = h
every P a b c d e f g h i j exporter = i
every P a b c d e f g h i j resumption = j

abbrev Moved : Call → (point kind ran after kind_after ran_after : ℕ) → Place → Type 0
Moved c point kind ran after kind_after ran_after p = held_now p (held_at p point kind ran) c ≡ held_at p after kind_after ran_after

moved : {c : Call} {point kind ran after kind_after ran_after : ℕ} → Moves c point kind ran after kind_after ran_after → (p : Place)
    → Moved c point kind ran after kind_after ran_after p
unfolding kind_of sets zeroes held_at
moved (begins {suite = suite} {kind = kind} {k = k} {r = r} {psk = psk}) =
    every (Moved (Begin suite kind psk) 0 k r 1 kind 0) refl (set_itself (not (eqb kind 0))) (and-false (eqb r 1))
    (and-false (eqb r 1)) refl refl refl refl refl refl
moved (feeds {p = p} {k = k} {r = r} {m = m}) = every (Moved (Feed m) p k r p k r) refl refl refl refl refl refl refl refl refl
    refl
moved (runs {k = k}) = every (Moved Early 1 k 0 1 k 1) refl refl refl refl refl refl refl refl refl refl
moved (shakes {g = g} {k = k} {r = r} {s = s}) = every (Moved (Handshake g s) 1 k r 2 k r) refl refl refl refl refl refl refl
    refl refl refl
moved (applies {k = k} {r = r}) = every (Moved Application 2 k r 3 k r) refl refl refl refl refl refl refl refl refl refl
moved (completes {k = k} {r = r}) =
    every (Moved Complete 3 k r 4 k r) refl refl (sym (and-false (eqb r 1))) (sym (and-false (eqb r 1))) refl refl refl refl
    refl refl
moved (updates {side = side} {k = k} {r = r}) =
    every (Moved (Update side) 4 k r 4 k r) refl refl refl refl refl refl (set_again (eqb side 1)) (set_again (eqb side 2)) refl
    refl
moved (closes {p = p} {k = k} {r = r}) = every (Moved Close p k r 5 0 0) refl refl refl refl refl refl refl refl refl refl
moved (reads_keys {n = n} {p = p} {k = k} {r = r} {o = o}) = every (Moved (Keys n o) p k r p k r) refl refl refl refl refl refl
    refl refl refl refl
moved (reads_finished {n = n} {p = p} {k = k} {r = r} {o = o}) = every (Moved (Finished n o) p k r p k r) refl refl refl refl
    refl refl refl refl refl refl
moved (reads_check {n = n} {p = p} {k = k} {r = r} {o = o}) = every (Moved (Check n o) p k r p k r) refl refl refl refl refl
    refl refl refl refl refl
moved (reads_binder {p = p} {k = k} {r = r} {h = h} {o = o}) = every (Moved (Binder h o) p k r p k r) refl refl refl refl refl
    refl refl refl refl refl
moved (reads_export {n = n} {a = a} {p = p} {k = k} {r = r} {l = l} {c = c} {o = o}) =
    every (Moved (Export n l c a o) p k r p k r) refl refl refl refl refl refl refl refl refl refl

pub fresh-held : (p : Place) → held_at p 0 0 0 ≡ false
unfolding held_at
fresh-held = every (λ (p : Place). held_at p 0 0 0 ≡ false) refl refl refl refl refl refl refl refl refl refl

-- So the table over the accepted calls of a list comes to the test of the book after it.
held_one : (p : Place) (b : Book) (v : Event) (es : List Event) → v.given ≡ reply b v.call
    → held p (held_by p (next b v.call)) (calls (kept es)) ≡ held_by p (book_after (next b v.call) (calls es))
    → (t : Bool) → eqb v.given.number 0 ≡ t
    → held p (held_by p b) (calls (cond t (v ∷ kept es) (kept es))) ≡ held_by p (book_after (next b v.call) (calls es))
unfolding held calls
held_one p b v es e rest true h =
    let z : number b v.call ≡ 0 = sym (ap (λ (g : Reply). g.number) e) ∙ eqb-true v.given.number 0 h in
    ap (λ (t : Bool). held p t (calls (kept es))) (moved (moves b v.call z) p ∙ ap (λ (a : Book). held_by p a)
    (sym (next-accepted b v.call z))) ∙ rest
held_one p b v es e rest false h = ap (λ (a : Book). held p (held_by p a) (calls (kept es))) (sym (refused_too b v e h)) ∙ rest

pub held_along : (p : Place) (b : Book) (events : List Event) → givens events ≡ replies b (calls events)
    → held p (held_by p b) (calls (kept events)) ≡ held_by p (book_after b (calls events))
unfolding book_after calls givens replies kept held
held_along p b [] e = refl
held_along p b (v ∷ es) e = held_one p b v es (head_is e) (held_along p (next b v.call) es (tail_is e))
    (eqb v.given.number 0) refl
