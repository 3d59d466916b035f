-- Document 01, "Refusal numbers": when a session call is refused, by its inputs and the book, call by call as the code decides
-- it (`x_number` beside the call x). Table says the same row by row.
use Rattle.std.specs.Prelude.{ℕ, ◌+◌, ◌*◌, Bool, cond, not, ◌&&◌, ◌||◌, List, length, eqb, ltb, leb}
use Rattle.suite.specs.Suite.{known, hash_length, key_length, iv_length, max_label}
use Rattle.book.specs.Call.{Call}
use Rattle.book.specs.Call.Call.{Begin, Feed, Early, Handshake, Application, Complete, Update, Close, Keys, Finished, Check, Binder, Export}
use Rattle.book.specs.Groups.{known_group, group_bytes, all_zero}
use Rattle.book.specs.Messages.{whole_message, type_taken, type_of, max_transcript}
use Rattle.book.specs.Book.{Book, fresh, early, handshake, application, complete, closed, blank_at, stage_of, fed_of, note}
use Rattle.book.specs.Held.{early_held, handshake_held, application_held}

-- PSK sizes: none 0, external 1 to 128, resumption H
abbrev pub psk_size : ℕ → ℕ → ℕ → Bool
psk_size suite kind n =
    (eqb kind 0 && eqb n 0) || ((eqb kind 1 && (leb 1 n && leb n 128)) || (eqb kind 2 && eqb n (hash_length suite)))

-- where a message is taken
abbrev pub taking : ℕ → ℕ → Bool
taking point stage =
    (eqb point early && ltb stage 2) || ((eqb point handshake && eqb stage 2) || (eqb point application && eqb stage 3))

-- sides: 1 client, 2 server
abbrev pub known_side : ℕ → Bool
known_side side = eqb side 1 || eqb side 2

-- where the Finished value of a side is made: before it is fed
abbrev pub finishing : ℕ → ℕ → ℕ → Bool
finishing point stage side =
    (eqb side 1 && (eqb point application && eqb stage 3)) || (eqb side 2 && (eqb point handshake && eqb stage 2))

-- Keys: 1 client early, 2 client handshake, 3 server handshake, 4 client application, 5 server application
abbrev pub keys_held : ℕ → ℕ → ℕ → Bool
keys_held point ran name =
    (eqb name 1 && early_held point ran)
    || (((eqb name 2 || eqb name 3) && handshake_held point) || ((eqb name 4 || eqb name 5) && application_held point))

-- Export: 1 early, 2 regular
abbrev pub export_held : ℕ → ℕ → ℕ → Bool
export_held point ran name = (eqb name 1 && early_held point ran) || (eqb name 2 && application_held point)

-- length 0 asks for 32 bytes
abbrev pub length_in_force : ℕ → ℕ
length_in_force asked = cond (eqb asked 0) 32 asked

abbrev pub export_range : ℕ → ℕ → ℕ → ℕ → Bool
export_range suite label context asked =
    (leb 1 label && leb label max_label) && (leb context 65535 && leb (length_in_force asked) (255 * hash_length suite))

abbrev pub max_updates : ℕ
max_updates = 65535

-- The number of each call: that of the first test that holds, or 0.
unfoldable pub begin_number : ℕ → ℕ → ℕ → ℕ → ℕ
begin_number point suite kind psk =
    cond (not (eqb point fresh)) 1
    (cond (not (known suite) || not (leb kind 2)) 2
    (cond (not (psk_size suite kind psk)) 4 0))

unfoldable pub feed_number : ℕ → ℕ → ℕ → List ℕ → ℕ
feed_number point stage fed message =
    cond (not (taking point stage)) 1
    (cond (not (whole_message message)) 7
    (cond (not (type_taken stage (type_of message))) 8
    (cond (not (leb (fed + length message) max_transcript)) 9 0)))

unfoldable pub early_number : ℕ → ℕ → ℕ → ℕ → ℕ
early_number point stage ran kind =
    cond (not (eqb point early && (eqb stage 1 && eqb ran 0))) 1
    (cond (eqb kind 0) 3 0)

unfoldable pub handshake_number : ℕ → ℕ → ℕ → ℕ → List ℕ → ℕ
handshake_number point stage kind group secret =
    cond (not (eqb point early && eqb stage 2)) 1
    (cond (not (known_group group)) 2
    (cond (not (eqb (length secret) (group_bytes group))) 4
    (cond ((eqb group 0x001d || eqb group 0x001e) && all_zero secret) 5
    (cond (eqb group 0 && eqb kind 0) 6 0))))

unfoldable pub application_number : ℕ → ℕ → ℕ
application_number point stage = cond (not (eqb point handshake && eqb stage 3)) 1 0

unfoldable pub complete_number : ℕ → ℕ → ℕ
complete_number point stage = cond (not (eqb point application && eqb stage 4)) 1 0

unfoldable pub update_number : ℕ → ℕ → ℕ → ℕ → ℕ
update_number point side client_updates server_updates =
    cond (not (eqb point complete)) 1
    (cond (not (known_side side)) 2
    (cond (not (ltb (cond (eqb side 1) client_updates server_updates) max_updates)) 12 0))

unfoldable pub keys_number : ℕ → ℕ → ℕ → ℕ → ℕ → ℕ
keys_number point suite ran name room =
    cond (eqb point fresh || eqb point closed) 1
    (cond (not (leb 1 name && leb name 5)) 2
    (cond (not (keys_held point ran name)) 3
    (cond (ltb room (key_length suite + iv_length suite)) 11 0)))

unfoldable pub finished_number : ℕ → ℕ → ℕ → ℕ → ℕ → ℕ
finished_number point stage suite side room =
    cond (known_side side && not (finishing point stage side)) 1
    (cond (not (known_side side)) 2
    (cond (ltb room (hash_length suite)) 11 0))

unfoldable pub check_number : ℕ → ℕ → ℕ → ℕ
check_number point stage side =
    cond (known_side side && not (finishing point stage side)) 1
    (cond (not (known_side side)) 2 0)

unfoldable pub binder_number : ℕ → ℕ → ℕ → List ℕ → ℕ → ℕ
binder_number point suite kind hello room =
    cond (not (eqb point early)) 1
    (cond (eqb kind 0) 3
    (cond (not (leb 4 (length hello) && leb (length hello) 65535)) 7
    (cond (not (eqb (type_of hello) 1)) 8
    (cond (ltb room (hash_length suite)) 11 0))))

unfoldable pub export_number : ℕ → ℕ → ℕ → ℕ → ℕ → ℕ → ℕ → ℕ → ℕ
export_number point suite ran name label context asked room =
    cond (eqb point fresh || eqb point closed) 1
    (cond (not (eqb name 1 || eqb name 2)) 2
    (cond (not (export_held point ran name)) 3
    (cond (not (export_range suite label context asked)) 10
    (cond (ltb room (length_in_force asked)) 11 0))))

-- The number that the book gives.
unfoldable pub number : Book → Call → ℕ
number b (Begin suite kind psk) = begin_number b.point suite kind (length psk)
number b (Feed message) = feed_number b.point (stage_of b) (fed_of b) message
number b Early = early_number b.point (stage_of b) b.ran b.kind
number b (Handshake group secret) = handshake_number b.point (stage_of b) b.kind group secret
number b Application = application_number b.point (stage_of b)
number b Complete = complete_number b.point (stage_of b)
number b (Update side) = update_number b.point side b.client_updates b.server_updates
number b Close = 0
number b (Keys name output) = keys_number b.point b.suite b.ran name (length output)
number b (Finished side output) = finished_number b.point (stage_of b) b.suite side (length output)
number b (Check side received) = check_number b.point (stage_of b) side
number b (Binder hello output) = binder_number b.point b.suite b.kind hello (length output)
number b (Export name label context asked output) =
    export_number b.point b.suite b.ran name (length label) (length context) asked (length output)

-- The book after a call: a refused call changes nothing in it.
abbrev pub next : Book → Call → Book
next b c = cond (eqb (number b c) 0) (note b c) b

-- The books that calls lead to from a fresh session.
pub data Reached : Book → Type 0 where
  start : Reached (blank_at fresh)
  more : {b : Book} → Reached b → (c : Call) → Reached (next b c)
