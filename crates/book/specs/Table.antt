-- Document 01, "Refusal numbers": the table row by row, each as a test of the book and the call. Row 13 is the journal's.
use Rattle.std.specs.Prelude.{ℕ, ◌+◌, Bool, true, false, cond, not, ◌&&◌, ◌||◌, List, [], ◌∷◌, ◌≡◌, length, eqb, ltb, leb}
use Rattle.suite.specs.Suite.{known, hash_length, key_length, iv_length}
use Rattle.book.specs.Call.{Call}
use Rattle.book.specs.Call.Call.{Begin, Feed, Early, Handshake, Application, Complete, Update, Close, Keys, Finished, Check, Binder, Export}
use Rattle.book.specs.On.{never, on_begin, on_feed, on_early, on_handshake, on_update, on_keys, on_finished, on_check, on_binder, on_export}
use Rattle.book.specs.Groups.{known_group, group_bytes, all_zero}
use Rattle.book.specs.Messages.{whole_message, type_taken, type_of, max_transcript}
use Rattle.book.specs.Book.{Book, fresh, early, handshake, application, complete, closed, stage_of, fed_of}
use Rattle.book.specs.Refusals.{psk_size, taking, known_side, finishing, keys_held, export_held, length_in_force, export_range, max_updates, number}

-- 1: the call isn't allowed at this point
unfoldable pub not_allowed : Book → Call → Bool
not_allowed b (Begin suite kind psk) = not (eqb b.point fresh)
not_allowed b (Feed message) = not (taking b.point (stage_of b))
not_allowed b Early = not (eqb b.point early && (eqb (stage_of b) 1 && eqb b.ran 0))
not_allowed b (Handshake group secret) = not (eqb b.point early && eqb (stage_of b) 2)
not_allowed b Application = not (eqb b.point handshake && eqb (stage_of b) 3)
not_allowed b Complete = not (eqb b.point application && eqb (stage_of b) 4)
not_allowed b (Update side) = not (eqb b.point complete)
not_allowed b Close = false
not_allowed b (Keys name output) = eqb b.point fresh || eqb b.point closed
not_allowed b (Finished side output) = known_side side && not (finishing b.point (stage_of b) side)
not_allowed b (Check side received) = known_side side && not (finishing b.point (stage_of b) side)
not_allowed b (Binder hello output) = not (eqb b.point early)
not_allowed b (Export name label context asked output) = eqb b.point fresh || eqb b.point closed

-- 2: unknown suite, PSK kind, group, side or name
unfoldable pub unknown : Book → Call → Bool
unknown b =
    on_begin (λ suite kind psk. not (known suite) || not (leb kind 2))
    (on_handshake (λ group secret. not (known_group group))
    (on_update (λ side. not (known_side side))
    (on_keys (λ name output. not (leb 1 name && leb name 5))
    (on_finished (λ side output. not (known_side side))
    (on_check (λ side received. not (known_side side))
    (on_export (λ name label context asked output. not (eqb name 1 || eqb name 2)) never))))))

-- 3: the secret asked for isn't held; Early or Binder without a PSK
unfoldable pub not_held : Book → Call → Bool
not_held b =
    on_early (eqb b.kind 0)
    (on_binder (λ hello output. eqb b.kind 0)
    (on_keys (λ name output. not (keys_held b.point b.ran name))
    (on_export (λ name label context asked output. not (export_held b.point b.ran name)) never)))

-- 4: a PSK or shared secret of a wrong size
unfoldable pub wrong_size : Book → Call → Bool
wrong_size b =
    on_begin (λ suite kind psk. not (psk_size suite kind (length psk)))
    (on_handshake (λ group secret. not (eqb (length secret) (group_bytes group))) never)

-- 5: shared secret all zero, groups 001D and 001E only
unfoldable pub zero_secret : Book → Call → Bool
zero_secret b = on_handshake (λ group secret. (eqb group 0x001d || eqb group 0x001e) && all_zero secret) never

-- 6: group 0 and no PSK
unfoldable pub no_secret : Book → Call → Bool
no_secret b = on_handshake (λ group secret. eqb group 0 && eqb b.kind 0) never

-- 7: message or cut ClientHello of a wrong length, or length field not body length (Feed)
unfoldable pub wrong_length : Book → Call → Bool
wrong_length b =
    on_feed (λ message. not (whole_message message))
    (on_binder (λ hello output. not (leb 4 (length hello) && leb (length hello) 65535)) never)

-- 8: message type not taken here; cut ClientHello not starting with 1
unfoldable pub wrong_type : Book → Call → Bool
wrong_type b =
    on_feed (λ message. not (type_taken (stage_of b) (type_of message)))
    (on_binder (λ hello output. not (eqb (type_of hello) 1)) never)

-- 9: transcript over its limit
unfoldable pub too_long : Book → Call → Bool
too_long b = on_feed (λ message. not (leb (fed_of b + length message) max_transcript)) never

-- 10: label, context or asked length outside its range
unfoldable pub out_of_range : Book → Call → Bool
out_of_range b =
    on_export (λ name label context asked output. not (export_range b.suite (length label) (length context) asked)) never

-- 11: lent output too short
unfoldable pub output_short : Book → Call → Bool
output_short b =
    on_keys (λ name output. ltb (length output) (key_length b.suite + iv_length b.suite))
    (on_finished (λ side output. ltb (length output) (hash_length b.suite))
    (on_binder (λ hello output. ltb (length output) (hash_length b.suite))
    (on_export (λ name label context asked output. ltb (length output) (length_in_force asked)) never)))

-- 12: 65,535 updates made on that side
unfoldable pub updates_spent : Book → Call → Bool
updates_spent b =
    on_update (λ side. not (ltb (cond (eqb side 1) b.client_updates b.server_updates) max_updates)) never

pub record Row : Type 0 where
  pub number : ℕ
  pub applies : Book → Call → Bool

abbrev pub row : ℕ → (Book → Call → Bool) → Row
row n t = record { number = n; applies = t }

abbrev pub rows : List Row
rows =
    row 1 not_allowed
    ∷ row 2 unknown
    ∷ row 3 not_held
    ∷ row 4 wrong_size
    ∷ row 5 zero_secret
    ∷ row 6 no_secret
    ∷ row 7 wrong_length
    ∷ row 8 wrong_type
    ∷ row 9 too_long
    ∷ row 10 out_of_range
    ∷ row 11 output_short
    ∷ row 12 updates_spent
    ∷ []

-- the lowest that applies, or 0
unfoldable pub first : List Row → Book → Call → ℕ
first [] b c = 0
first (r ∷ rest) b c = cond (r.applies b c) r.number (first rest b c)

-- whether none applies
unfoldable pub none : List Row → Book → Call → Bool
none [] b c = true
none (r ∷ rest) b c = not (r.applies b c) && none rest b c

-- The numbers are the table's,
abbrev pub ByTheTable : Type 0
ByTheTable = (b : Book) (c : Call) → number b c ≡ first rows b c

-- and 0 exactly if no row applies.
abbrev pub DoneIfNone : Type 0
DoneIfNone = (b : Book) (c : Call) → eqb (number b c) 0 ≡ none rows b c
