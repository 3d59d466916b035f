-- Document 01, "Demand 3's book": what the calls alone say of a session.
use Rattle.std.specs.Prelude.{ℕ, ◌+◌, cond, List, [], ◌∷◌, ◌++◌, length, eqb}
use Rattle.book.specs.Call.{Call}
use Rattle.book.specs.Call.Call.{Begin, Feed, Early, Handshake, Application, Complete, Update, Close, Keys, Finished, Check, Binder, Export}
use Rattle.book.specs.Messages.{stage_from, transcript}

-- Points
abbrev pub fresh : ℕ
fresh = 0

abbrev pub early : ℕ
early = 1

abbrev pub handshake : ℕ
handshake = 2

abbrev pub application : ℕ
application = 3

abbrev pub complete : ℕ
complete = 4

abbrev pub closed : ℕ
closed = 5

pub record Book : Type 0 where
  pub point : ℕ
  pub suite : ℕ
  pub kind : ℕ  -- of the PSK: 0 none, 1 external, 2 resumption
  pub psk : List ℕ
  pub secret : List ℕ  -- the shared secret; none is 0 bytes
  pub messages : List (List ℕ)
  pub ran : ℕ  -- how often Early was accepted: 0 or 1
  pub client_updates : ℕ
  pub server_updates : ℕ

-- a book at a point that holds nothing else
abbrev pub blank_at : ℕ → Book
blank_at p =
    record { point = p; suite = 0; kind = 0; psk = []; secret = []; messages = []; ran = 0; client_updates = 0; server_updates = 0 }

abbrev pub stage_of : Book → ℕ
stage_of b = stage_from 0 b.messages

-- bytes fed
abbrev pub fed_of : Book → ℕ
fed_of b = length (transcript b.messages)

-- a book moved to a point
abbrev pub moved_to : ℕ → Book → Book
moved_to p b =
    record { point = p; suite = b.suite; kind = b.kind; psk = b.psk; secret = b.secret; messages = b.messages; ran = b.ran; client_updates = b.client_updates; server_updates = b.server_updates }

-- What an accepted call notes.
unfoldable pub note : Book → Call → Book
note b (Begin suite kind psk) =
    record { point = early; suite = suite; kind = kind; psk = psk; secret = []; messages = []; ran = 0; client_updates = 0; server_updates = 0 }
note b (Feed message) =
    record { point = b.point; suite = b.suite; kind = b.kind; psk = b.psk; secret = b.secret; messages = b.messages ++ (message ∷ []); ran = b.ran; client_updates = b.client_updates; server_updates = b.server_updates }
note b Early =
    record { point = b.point; suite = b.suite; kind = b.kind; psk = b.psk; secret = b.secret; messages = b.messages; ran = 1; client_updates = b.client_updates; server_updates = b.server_updates }
note b (Handshake group secret) =
    record { point = handshake; suite = b.suite; kind = b.kind; psk = b.psk; secret = secret; messages = b.messages; ran = b.ran; client_updates = b.client_updates; server_updates = b.server_updates }
note b Application = moved_to application b
note b Complete = moved_to complete b
note b (Update side) =
    record { point = b.point; suite = b.suite; kind = b.kind; psk = b.psk; secret = b.secret; messages = b.messages; ran = b.ran; client_updates = cond (eqb side 1) (b.client_updates + 1) b.client_updates; server_updates = cond (eqb side 1) b.server_updates (b.server_updates + 1) }
note b Close = blank_at closed
note b (Keys name output) = b
note b (Finished side output) = b
note b (Check side received) = b
note b (Binder hello output) = b
note b (Export name label context asked output) = b
