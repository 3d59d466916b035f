-- What the accepted call keeps of the values that it derived, on a session that a book describes. The call's contract does not
-- rest on it.
use Rattle.std.specs.Prelude.{ℕ, List, ◌≡◌, take}
use Rattle.buffer.specs.Buffer.{placed}
use Rattle.suite.specs.Suite.{hash_length}
use Rattle.suite_hash.specs.Variants.{variant_of}
use Rattle.suite_hash.specs.Running.{finished}
use Rattle.hkdf.specs.Refusals.{max_message}
use Rattle.schedule.specs.Labels.Secret.{client_handshake, server_handshake}
use Rattle.schedule.specs.Schedule.{within, handshake_secret, from_hash}
use Rattle.book.specs.Call.Call.{Handshake}
use Rattle.book.specs.Book.{Book, note}
use Rattle.book.specs.Refusals.{number, Reached}
use Rattle.session.specs.declared.Session.{Session}
use Rattle.session.specs.Session.{session_of}

-- Handshake on s, with the hash d of the messages
abbrev pub HandshakeKept : (s : Session) (chain client server : List ℕ) (after : Session) → Type 0
HandshakeKept s chain client server after =
    (b : Book) (group : ℕ) (secret d : List ℕ) → Reached b → s ≡ session_of b → number b (Handshake group secret) ≡ 0
    → d ≡ finished (variant_of s.suite) s.transcript
    → chain ≡ placed (handshake_secret s.suite (take (hash_length s.suite) s.chain) (within max_message secret))
    → client ≡ placed (from_hash s.suite client_handshake (take (hash_length s.suite) chain) (take (hash_length s.suite) d))
    → server ≡ placed (from_hash s.suite server_handshake (take (hash_length s.suite) chain) (take (hash_length s.suite) d))
    → after ≡ session_of (note b (Handshake group secret))
