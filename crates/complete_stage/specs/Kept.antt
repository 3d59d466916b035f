-- What the accepted call keeps of the values that it derived, on a session that a book describes. The call's contract does not
-- rest on it.
use Rattle.std.specs.Prelude.{ℕ, cond, List, ◌≡◌, eqb, take}
use Rattle.buffer.specs.Buffer.{placed}
use Rattle.suite.specs.Suite.{hash_length}
use Rattle.suite_hash.specs.Variants.{variant_of}
use Rattle.suite_hash.specs.Running.{finished}
use Rattle.schedule.specs.Labels.Secret.{resumption}
use Rattle.schedule.specs.Schedule.{next_traffic_secret, from_hash}
use Rattle.book.specs.Call.Call.{Complete, Update}
use Rattle.book.specs.Book.{Book, note}
use Rattle.book.specs.Refusals.{number, Reached}
use Rattle.session.specs.declared.Session.{Session}
use Rattle.session.specs.Session.{session_of}

-- the secret of a side, and Update of it on s
abbrev pub side_secret : Session → ℕ → List ℕ
side_secret s side = cond (eqb side 1) s.client_application s.server_application

abbrev pub UpdateKept : (s : Session) (side : ℕ) (moved : List ℕ) (after : Session) → Type 0
UpdateKept s side moved after =
    (b : Book) → Reached b → s ≡ session_of b → number b (Update side) ≡ 0
    → moved ≡ placed (next_traffic_secret s.suite (take (hash_length s.suite) (side_secret s side)))
    → after ≡ session_of (note b (Update side))

-- Complete on s, with the hash d of the messages
abbrev pub CompleteKept : (s : Session) (made : List ℕ) (after : Session) → Type 0
CompleteKept s made after =
    (b : Book) (d : List ℕ) → Reached b → s ≡ session_of b → number b Complete ≡ 0
    → d ≡ finished (variant_of s.suite) s.transcript
    → made ≡ placed (from_hash s.suite resumption (take (hash_length s.suite) s.chain) (take (hash_length s.suite) d))
    → after ≡ session_of (note b Complete)
