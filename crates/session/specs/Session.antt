-- Every byte of the session that a book describes.
use Rattle.std.specs.Prelude.{ℕ, Bool, cond, ◌&&◌, List, eqb, leb}
use Rattle.buffer.specs.Buffer.{zeros, placed}
use Rattle.suite_hash.specs.declared.running.Running.{Running}
use Rattle.suite_hash.specs.Variants.{variant_of}
use Rattle.suite_hash.specs.Running.{running_of}
use Rattle.schedule.specs.Labels.{binder_of}
use Rattle.schedule.specs.Labels.Secret.{client_early, early_exporter, client_handshake, server_handshake, exporter, resumption}
use Rattle.session.specs.declared.Session.{Session}
use Rattle.book.specs.Messages.{transcript}
use Rattle.book.specs.Book.{Book, early, handshake, complete, stage_of}
use Rattle.book.specs.Held.{chain_held, binder_held, early_held, handshake_held, application_held, resumption_held}
use Rattle.session.specs.Values.{early_secret_of, handshake_secret_of, master_secret_of, secret_of, client_application_secret, server_application_secret}

-- a place of 48 bytes: the value with zeros behind it, or zeros
abbrev pub place : Bool → List ℕ → List ℕ
place held v = cond held (placed v) (zeros 48)

-- the chain secret of a point
abbrev pub chain_at : Book → List ℕ
chain_at b =
    cond (eqb b.point early) (early_secret_of b)
    (cond (eqb b.point handshake) (handshake_secret_of b) (master_secret_of b))

-- before Begin and after Close
abbrev pub blank_running : Running
blank_running = record { state = zeros 8; block = zeros 128; count = 0 }

-- the running hash of the transcript
abbrev pub running_at : Book → Running
running_at b =
    cond (leb early b.point && leb b.point complete) (running_of (variant_of b.suite) (transcript b.messages)) blank_running

unfoldable pub session_of : Book → Session
session_of b =
    record {
      suite = b.suite;
      kind = b.kind;
      early = b.ran;
      point = b.point;
      stage = stage_of b;
      client_updates = b.client_updates;
      server_updates = b.server_updates;
      transcript = running_at b;
      chain = place (chain_held b.point) (chain_at b);
      binder_key = place (binder_held b.point b.kind) (secret_of (binder_of b.kind) b);
      client_early = place (early_held b.point b.ran) (secret_of client_early b);
      early_exporter = place (early_held b.point b.ran) (secret_of early_exporter b);
      client_handshake = place (handshake_held b.point) (secret_of client_handshake b);
      server_handshake = place (handshake_held b.point) (secret_of server_handshake b);
      client_application = place (application_held b.point) (client_application_secret b);
      server_application = place (application_held b.point) (server_application_secret b);
      exporter = place (application_held b.point) (secret_of exporter b);
      resumption = place (resumption_held b.point) (secret_of resumption b);
    }
