-- What the accepted call keeps of the values that it derived, on a session that a book describes. The call's contract does not
-- rest on it.
use Rattle.std.specs.Prelude.{ℕ, List, ◌≡◌, take}
use Rattle.buffer.specs.Buffer.{placed}
use Rattle.suite.specs.Suite.{hash_length}
use Rattle.suite_hash.specs.Variants.{variant_of}
use Rattle.suite_hash.specs.Running.{finished}
use Rattle.schedule.specs.Labels.Secret.{client_application, server_application, exporter}
use Rattle.schedule.specs.Schedule.{master_secret, from_hash}
use Rattle.book.specs.Call.Call.{Application}
use Rattle.book.specs.Book.{Book, note}
use Rattle.book.specs.Refusals.{number, Reached}
use Rattle.session.specs.declared.Session.{Session}
use Rattle.session.specs.Session.{session_of}

-- Application on s, with the hash d of the messages
abbrev pub ApplicationKept : (s : Session) (chain client server exporting : List ℕ) (after : Session) → Type 0
ApplicationKept s chain client server exporting after =
    (b : Book) (d : List ℕ) → Reached b → s ≡ session_of b → number b Application ≡ 0
    → d ≡ finished (variant_of s.suite) s.transcript
    → chain ≡ placed (master_secret s.suite (take (hash_length s.suite) s.chain))
    → client ≡ placed (from_hash s.suite client_application (take (hash_length s.suite) chain) (take (hash_length s.suite) d))
    → server ≡ placed (from_hash s.suite server_application (take (hash_length s.suite) chain) (take (hash_length s.suite) d))
    → exporting ≡ placed (from_hash s.suite exporter (take (hash_length s.suite) chain) (take (hash_length s.suite) d))
    → after ≡ session_of (note b Application)
