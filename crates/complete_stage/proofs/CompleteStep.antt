-- The session after an accepted Complete is that of the book with it noted.
use Prim.Native.Nat.{ℕ}
use mathlib.Core.Bool.{Bool, false, cond, ◌&&◌}
use mathlib.Core.List.{List}
use mathlib.Core.Path.{◌≡◌, refl, sym, ap, ◌∙◌}
use lib.Dec.{eqb}
use lib.ListN.{take}
use Rattle.buffer.specs.Buffer.{zeros, placed}
use Rattle.refusal.proofs.Laws.{and-false}
use Rattle.suite.specs.Suite.{hash_length}
use Rattle.suite_hash.specs.Variants.{variant_of}
use Rattle.suite_hash.specs.Running.{finished}
use Rattle.schedule.specs.Labels.Secret.{resumption}
use Rattle.schedule.specs.Diagram.{from, until}
use Rattle.schedule.specs.Schedule.{from_hash}
use Rattle.session.specs.declared.Session.{Session}
use Rattle.book.specs.Call.Call.{Complete}
use Rattle.book.specs.Book.{Book, note}
use Rattle.session.specs.Values.{early_secret_of, handshake_secret_of, master_secret_of, chain_of, secret_of, client_application_secret, server_application_secret}
use Rattle.session.specs.Session.{session_of}
use Rattle.book.proofs.Books.{Good}
use Rattle.session.proofs.Secrets.{hash_of_lem, derived-place, master_of}
use Rattle.session.proofs.Fields.{same-session, suite_is, kind_is, ran_is, stage_is, client_updates_is, server_updates_is, transcript_at, chain_at_lem, binder_key_at, client_application_at, server_application_at, exporter_at}

pub completed : (b : Book) (s : Session) {d made none : List ℕ} → Good b → b.point ≡ 3 → s ≡ session_of b
    → d ≡ finished (variant_of s.suite) s.transcript
    → made ≡ placed (from_hash s.suite resumption (take (hash_length s.suite) s.chain) (take (hash_length s.suite) d))
    → none ≡ zeros 48
    → ◌≡◌ {A = Session} (record {
      suite = s.suite;
      kind = s.kind;
      early = s.early;
      point = 4;
      stage = s.stage;
      client_updates = s.client_updates;
      server_updates = s.server_updates;
      transcript = s.transcript;
      chain = none;
      binder_key = s.binder_key;
      client_early = none;
      early_exporter = none;
      client_handshake = none;
      server_handshake = none;
      client_application = s.client_application;
      server_application = s.server_application;
      exporter = s.exporter;
      resumption = made;
    })
    (session_of (note b Complete))
unfolding session_of note secret_of from until chain_of early_secret_of handshake_secret_of master_secret_of client_application_secret
    server_application_secret
completed b s {none = none} g p e ed em en =
    let h = hash_of_lem s b 3 e p refl g.fed ed in
    let all = (g.client p).0 in
    let cleared : (v : List ℕ) → none ≡ cond (eqb b.ran 1 && false) v (zeros 48) = λ v. en ∙ ap
    (λ (t : Bool). cond t v (zeros 48)) (sym (and-false (eqb b.ran 1))) in
    same-session
    (suite_is s b e)
    (kind_is s b e)
    (ran_is s b e)
    refl
    (stage_is s b e)
    (client_updates_is s b e)
    (server_updates_is s b e)
    (transcript_at s b 3 e p)
    en
    (binder_key_at s b 3 e p)
    (cleared _)
    (cleared _)
    en
    en
    (client_application_at s b 3 e p)
    (server_application_at s b 3 e p)
    (exporter_at s b 3 e p)
    (derived-place s b resumption (master_secret_of b) 4 all (suite_is s b e) (chain_at_lem s b 3 e p) (master_of b) h em)
