-- What the accepted call keeps of the values that it derived, on a session that a book describes. The call's contract does not
-- rest on it.
use Rattle.std.specs.Prelude.{ℕ, List, ◌≡◌, take}
use Rattle.buffer.specs.Buffer.{placed}
use Rattle.suite.specs.Suite.{hash_length}
use Rattle.suite_hash.specs.Variants.{variant_of}
use Rattle.suite_hash.specs.Running.{finished}
use Rattle.schedule.specs.Labels.Secret.{client_early, early_exporter}
use Rattle.schedule.specs.Schedule.{from_hash}
use Rattle.book.specs.Call.Call.{Early}
use Rattle.book.specs.Book.{Book, note}
use Rattle.book.specs.Refusals.{number, Reached}
use Rattle.session.specs.declared.Session.{Session}
use Rattle.session.specs.Session.{session_of}

-- Early on s, with the hash d of the messages
abbrev pub EarlyKept : (s : Session) (client exporter : List ℕ) (after : Session) → Type 0
EarlyKept s client exporter after =
    (b : Book) (d : List ℕ) → Reached b → s ≡ session_of b → number b Early ≡ 0
    → d ≡ finished (variant_of s.suite) s.transcript
    → client ≡ placed (from_hash s.suite client_early (take (hash_length s.suite) s.chain) (take (hash_length s.suite) d))
    → exporter ≡ placed (from_hash s.suite early_exporter (take (hash_length s.suite) s.chain) (take (hash_length s.suite) d))
    → after ≡ session_of (note b Early)
