-- The session after an accepted Early is that of the book with it noted.
use Prim.Native.Nat.{ℕ}
use mathlib.Core.Bool.{◌&&◌}
use mathlib.Core.List.{List}
use mathlib.Core.Path.{◌≡◌, refl, sym, ap, ◌∙◌}
use lib.Dec.{leb}
use lib.ListN.{take}
use Rattle.buffer.specs.Buffer.{placed}
use Rattle.suite.specs.Suite.{hash_length}
use Rattle.suite_hash.specs.Variants.{variant_of}
use Rattle.suite_hash.specs.Running.{finished}
use Rattle.schedule.specs.Labels.Secret.{client_early, early_exporter}
use Rattle.schedule.specs.Diagram.{from, until}
use Rattle.schedule.specs.Schedule.{from_hash}
use Rattle.session.specs.declared.Session.{Session}
use Rattle.book.specs.Call.Call.{Early}
use Rattle.book.specs.Book.{Book, stage_of, note}
use Rattle.book.specs.Held.{binder_held}
use Rattle.session.specs.Values.{early_secret_of, handshake_secret_of, master_secret_of, chain_of, secret_of, client_application_secret, server_application_secret}
use Rattle.session.specs.Session.{place, session_of}
use Rattle.book.proofs.Books.{Good}
use Rattle.session.proofs.Secrets.{binder_secret, hash_of_lem, derived-place, early_of}
use Rattle.session.proofs.Fields.{same-session, suite_is, chain_at_lem}

pub earlied : (b : Book) (s : Session) {d client exporting : List ℕ} → Good b → b.point ≡ 1 → stage_of b ≡ 1 → s ≡ session_of b
    → d ≡ finished (variant_of s.suite) s.transcript
    → client ≡ placed (from_hash s.suite client_early (take (hash_length s.suite) s.chain) (take (hash_length s.suite) d))
    → exporting ≡ placed (from_hash s.suite early_exporter (take (hash_length s.suite) s.chain)
    (take (hash_length s.suite) d))
    → ◌≡◌ {A = Session} (record {
      suite = s.suite;
      kind = s.kind;
      early = 1;
      point = s.point;
      stage = s.stage;
      client_updates = s.client_updates;
      server_updates = s.server_updates;
      transcript = s.transcript;
      chain = s.chain;
      binder_key = s.binder_key;
      client_early = client;
      early_exporter = exporting;
      client_handshake = s.client_handshake;
      server_handshake = s.server_handshake;
      client_application = s.client_application;
      server_application = s.server_application;
      exporter = s.exporter;
      resumption = s.resumption;
    })
    (session_of (note b Early))
unfolding session_of note secret_of from until chain_of early_secret_of handshake_secret_of master_secret_of client_application_secret
    server_application_secret
earlied b s g p one e ed ec ee =
    let h = hash_of_lem s b 1 e p refl g.fed ed in
    let all = g.hello p one in
    same-session
    (ap (λ (x : Session). x.suite) e)
    (ap (λ (x : Session). x.kind) e)
    refl
    (ap (λ (x : Session). x.point) e)
    (ap (λ (x : Session). x.stage) e)
    (ap (λ (x : Session). x.client_updates) e)
    (ap (λ (x : Session). x.server_updates) e)
    (ap (λ (x : Session). x.transcript) e)
    (ap (λ (x : Session). x.chain) e)
    (ap (λ (x : Session). x.binder_key) e ∙ ap (place (binder_held b.point b.kind))
    (binder_secret b ∙ sym (binder_secret (note b Early))))
    (derived-place s b client_early (early_secret_of b) 1 all (suite_is s b e) (chain_at_lem s b 1 e p) (early_of b) h ec ∙ ap
    (λ (n : ℕ). place (leb 1 n && leb n 3) (secret_of client_early b)) (sym p))
    (derived-place s b early_exporter (early_secret_of b) 1 all (suite_is s b e) (chain_at_lem s b 1 e p) (early_of b) h ee ∙ ap
    (λ (n : ℕ). place (leb 1 n && leb n 3) (secret_of early_exporter b)) (sym p))
    (ap (λ (x : Session). x.client_handshake) e)
    (ap (λ (x : Session). x.server_handshake) e)
    (ap (λ (x : Session). x.client_application) e)
    (ap (λ (x : Session). x.server_application) e)
    (ap (λ (x : Session). x.exporter) e)
    (ap (λ (x : Session). x.resumption) e)
