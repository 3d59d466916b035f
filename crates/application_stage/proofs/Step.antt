-- The session after an accepted Application is that of the book with it noted.
use Prim.Native.Nat.{ℕ}
use mathlib.Core.List.{List}
use mathlib.Core.Path.{◌≡◌, refl, sym, ap, ◌∙◌}
use native.Mathlib.Omega.{arith}
use lib.ListN.{take}
use Rattle.buffer.specs.Buffer.{placed}
use Rattle.buffer.proofs.Laws.{take-placed}
use Rattle.suite.specs.Suite.{hash_length}
use Rattle.suite_hash.specs.Variants.{variant_of}
use Rattle.suite_hash.specs.Running.{finished}
use Rattle.schedule.specs.Labels.Secret.{client_application, server_application, exporter}
use Rattle.schedule.specs.Diagram.{from, until}
use Rattle.schedule.specs.Schedule.{master_secret, from_hash, updated}
use Rattle.session.specs.declared.Session.{Session}
use Rattle.book.specs.Call.Call.{Application}
use Rattle.book.specs.Book.{Book, note}
use Rattle.session.specs.Values.{early_secret_of, handshake_secret_of, master_secret_of, chain_of, secret_of, client_application_secret, server_application_secret}
use Rattle.session.specs.Session.{session_of}
use Rattle.book.proofs.Books.{Good}
use Rattle.session.proofs.Secrets.{hash_of_lem, derived-place, handshake_of_lem, master_of}
use Rattle.session.proofs.Fields.{same-session, suite_is, kind_is, ran_is, stage_is, client_updates_is, server_updates_is, transcript_at, chain_at_lem, binder_key_at, client_early_at, early_exporter_at, client_handshake_at, server_handshake_at, resumption_at}

master_chain : (b : Book) (s : Session) {chain : List ℕ} → b.point ≡ 2 → s ≡ session_of b
    → chain ≡ placed (master_secret s.suite (take (hash_length s.suite) s.chain)) → chain ≡ placed (master_secret_of b)
unfolding master_secret_of
master_chain b s p e ek =
    ek ∙ ap (λ (u : ℕ). placed (master_secret u (take (hash_length u) s.chain))) (suite_is s b e)
    ∙ ap (λ (l : List ℕ). placed (master_secret b.suite l)) (ap (take (hash_length b.suite)) (chain_at_lem s b 2 e p) ∙ take-placed
    (hash_length b.suite) (handshake_secret_of b) (handshake_of_lem b))

pub applied : (b : Book) (s : Session) {d chain client server exporting : List ℕ} → Good b → b.point ≡ 2 → s ≡ session_of b
    → d ≡ finished (variant_of s.suite) s.transcript
    → chain ≡ placed (master_secret s.suite (take (hash_length s.suite) s.chain))
    → client ≡ placed (from_hash s.suite client_application (take (hash_length s.suite) chain) (take (hash_length s.suite) d))
    → server ≡ placed (from_hash s.suite server_application (take (hash_length s.suite) chain) (take (hash_length s.suite) d))
    → exporting ≡ placed (from_hash s.suite exporter (take (hash_length s.suite) chain) (take (hash_length s.suite) d))
    → ◌≡◌ {A = Session} (record {
      suite = s.suite;
      kind = s.kind;
      early = s.early;
      point = 3;
      stage = s.stage;
      client_updates = s.client_updates;
      server_updates = s.server_updates;
      transcript = s.transcript;
      chain = chain;
      binder_key = s.binder_key;
      client_early = s.client_early;
      early_exporter = s.early_exporter;
      client_handshake = s.client_handshake;
      server_handshake = s.server_handshake;
      client_application = client;
      server_application = server;
      exporter = exporting;
      resumption = s.resumption;
    })
    (session_of (note b Application))
unfolding session_of note secret_of from until chain_of early_secret_of handshake_secret_of master_secret_of client_application_secret
    server_application_secret updated
applied b s {chain = chain} g p e ed ek ec es ee =
    let h = hash_of_lem s b 2 e p refl g.fed ed in
    let all = (g.server p).0 in
    let k : chain ≡ placed (master_secret_of b) = master_chain b s p e ek in
    let still = g.unmoved (λ q. apart (sym p ∙ q)) in
    same-session
    (suite_is s b e)
    (kind_is s b e)
    (ran_is s b e)
    refl
    (stage_is s b e)
    (client_updates_is s b e)
    (server_updates_is s b e)
    (transcript_at s b 2 e p)
    k
    (binder_key_at s b 2 e p)
    (client_early_at s b 2 e p)
    (early_exporter_at s b 2 e p)
    (client_handshake_at s b 2 e p)
    (server_handshake_at s b 2 e p)
    (derived-place s b client_application (master_secret_of b) 3 all (suite_is s b e) k (master_of b) h ec ∙ ap
    (λ (n : ℕ). placed (updated b.suite n (secret_of client_application b))) (sym still.0))
    (derived-place s b server_application (master_secret_of b) 3 all (suite_is s b e) k (master_of b) h es ∙ ap
    (λ (n : ℕ). placed (updated b.suite n (secret_of server_application b))) (sym still.1))
    (derived-place s b exporter (master_secret_of b) 3 all (suite_is s b e) k (master_of b) h ee)
    (resumption_at s b 2 e p)
  where
    apart : ◌≡◌ {A = ℕ} 2 4 → ⊥
    apart i = omega arith
