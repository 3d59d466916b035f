-- The numbers of the session calls are those of document 01's table.
use Prim.Native.Nat.{ℕ}
use mathlib.Core.Bool.{Bool, true, false, cond, not, ◌&&◌}
use mathlib.Core.List.{List, [], ◌∷◌}
use mathlib.Core.Path.{◌≡◌, refl, ap, ◌∙◌}
use lib.Dec.{eqb}
use borrow.Author.Tests.{not-true}
use Rattle.refusal.proofs.Laws.{and-true}
use Rattle.book.specs.Call.{Call}
use Rattle.book.specs.Call.Call.{Begin, Feed, Early, Handshake, Application, Complete, Update, Close, Keys, Finished, Check, Binder, Export}
use Rattle.book.specs.Refusals.{begin_number, feed_number, early_number, handshake_number, application_number, complete_number, update_number, keys_number, finished_number, check_number, binder_number, export_number, number}
use Rattle.book.specs.Book.{Book}
use Rattle.book.specs.Table.{Row, rows, ByTheTable, DoneIfNone, first, none, not_allowed, unknown, not_held, wrong_size, zero_secret, no_secret, wrong_length, wrong_type, too_long, out_of_range, output_short, updates_spent}

pub by_the_table : ByTheTable
unfolding number begin_number feed_number early_number handshake_number application_number complete_number update_number keys_number
    finished_number check_number binder_number export_number first not_allowed unknown not_held wrong_size zero_secret no_secret
    wrong_length wrong_type too_long out_of_range output_short updates_spent
by_the_table b (Begin suite kind psk) = refl
by_the_table b (Feed message) = refl
by_the_table b Early = refl
by_the_table b (Handshake group secret) = refl
by_the_table b Application = refl
by_the_table b Complete = refl
by_the_table b (Update side) = refl
by_the_table b Close = refl
by_the_table b (Keys name output) = refl
by_the_table b (Finished side output) = refl
by_the_table b (Check side received) = refl
by_the_table b (Binder hello output) = refl
by_the_table b (Export name label context asked output) = refl

-- No row has the number 0.
some_number : List Row → Bool
some_number [] = true
some_number (r ∷ rest) = not (eqb r.number 0) && some_number rest

zero-by : (t : Bool) (n m : ℕ) {x : Bool} → not (eqb n 0) ≡ true → eqb m 0 ≡ x → eqb (cond t n m) 0 ≡ (not t && x)
zero-by true n m h e = not-true (eqb n 0) h
zero-by false n m h e = e

none-zero : (rs : List Row) → some_number rs ≡ true → (b : Book) (c : Call) → eqb (first rs b c) 0 ≡ none rs b c
unfolding first none some_number
none-zero [] h b c = refl
none-zero (r ∷ rest) h b c =
    let s = and-true (not (eqb r.number 0)) (some_number rest) h in
    zero-by (r.applies b c) r.number (first rest b c) s.0 (none-zero rest s.1 b c)

pub done_if_none : DoneIfNone
unfolding some_number
done_if_none b c = ap (λ (n : ℕ). eqb n 0) (by_the_table b c) ∙ none-zero rows refl b c
