-- The session after Close is that of the book with it noted.
use mathlib.Core.Path.{◌≡◌}
use Rattle.session.specs.declared.Session.{Session}
use Rattle.book.specs.Call.Call.{Close}
use Rattle.book.specs.Messages.{stage_from}
use Rattle.book.specs.Book.{Book, blank_at, note}
use Rattle.session.specs.Session.{session_of}

pub closed : (b : Book) (z : Session) → z ≡ session_of (blank_at 0)
    → ◌≡◌ {A = Session} (record {
      suite = z.suite;
      kind = z.kind;
      early = z.early;
      point = 5;
      stage = z.stage;
      client_updates = z.client_updates;
      server_updates = z.server_updates;
      transcript = z.transcript;
      chain = z.chain;
      binder_key = z.binder_key;
      client_early = z.client_early;
      early_exporter = z.early_exporter;
      client_handshake = z.client_handshake;
      server_handshake = z.server_handshake;
      client_application = z.client_application;
      server_application = z.server_application;
      exporter = z.exporter;
      resumption = z.resumption;
    })
    (session_of (note b Close))
unfolding session_of note stage_from
closed b z e = rw e
