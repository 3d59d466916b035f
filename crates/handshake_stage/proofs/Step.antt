-- The session after an accepted Handshake is that of the book with it noted.
use Prim.Native.Nat.{ℕ, ◌≤◌}
use mathlib.Core.List.{List}
use mathlib.Core.Path.{◌≡◌, refl, ap, ◌∙◌}
use native.Mathlib.Omega.{arith}
use lib.ListN.{length, take}
use Rattle.buffer.specs.Buffer.{zeros, placed}
use Rattle.buffer.proofs.Laws.{take-placed}
use Rattle.suite.specs.Suite.{hash_length}
use Rattle.suite_hash.specs.Variants.{variant_of}
use Rattle.suite_hash.specs.Running.{finished}
use Rattle.hkdf.specs.Refusals.{max_message}
use Rattle.schedule.specs.Labels.Secret.{client_handshake, server_handshake}
use Rattle.schedule.specs.Diagram.{from, until}
use Rattle.schedule.specs.Schedule.{within, early_secret, handshake_secret, from_hash}
use Rattle.schedule.proofs.Laws.{within_limit}
use Rattle.session.specs.declared.Session.{Session}
use Rattle.book.specs.Call.Call.{Handshake}
use Rattle.book.specs.Book.{Book, note}
use Rattle.session.specs.Values.{early_secret_of, handshake_secret_of, master_secret_of, chain_of, secret_of, client_application_secret, server_application_secret}
use Rattle.session.specs.Session.{session_of}
use Rattle.book.proofs.Books.{Good}
use Rattle.session.proofs.Secrets.{hash_of_lem, derived-place, early_of, handshake_of_lem}
use Rattle.session.proofs.Fields.{same-session, suite_is, kind_is, ran_is, stage_is, client_updates_is, server_updates_is, transcript_at, chain_at_lem, client_early_at, early_exporter_at, client_application_at, server_application_at, exporter_at, resumption_at}

handshake-chain : (b : Book) (group : ℕ) (secret : List ℕ) (s : Session) {chain : List ℕ} → b.point ≡ 1 → length secret ≤ 1024
    → s ≡ session_of b
    → chain ≡ placed (handshake_secret s.suite (take (hash_length s.suite) s.chain) (within max_message secret))
    → chain ≡ placed (handshake_secret_of (note b (Handshake group secret)))
unfolding note handshake_secret_of early_secret_of
handshake-chain b group secret s p small e ek =
    ek ∙ ap (λ (u : ℕ). placed (handshake_secret u (take (hash_length u) s.chain) (within max_message secret))) (suite_is s b e)
    ∙ ap (λ (l : List ℕ). placed (handshake_secret b.suite l (within max_message secret)))
    (ap (take (hash_length b.suite)) (chain_at_lem s b 1 e p) ∙ take-placed (hash_length b.suite)
    (early_secret b.suite b.psk) (early_of b))
    ∙ ap (λ (l : List ℕ). placed (handshake_secret b.suite (early_secret b.suite b.psk) l))
    (within_limit max_message secret (omega arith))

pub shaken : (b : Book) (group : ℕ) (secret : List ℕ) (s : Session) {d chain client server none : List ℕ} → Good b → b.point ≡
    1 → length secret ≤ 1024 → s ≡ session_of b
    → d ≡ finished (variant_of s.suite) s.transcript
    → chain ≡ placed (handshake_secret s.suite (take (hash_length s.suite) s.chain) (within max_message secret))
    → client ≡ placed (from_hash s.suite client_handshake (take (hash_length s.suite) chain) (take (hash_length s.suite) d))
    → server ≡ placed (from_hash s.suite server_handshake (take (hash_length s.suite) chain) (take (hash_length s.suite) d))
    → none ≡ zeros 48
    → ◌≡◌ {A = Session} (record {
      suite = s.suite;
      kind = s.kind;
      early = s.early;
      point = 2;
      stage = s.stage;
      client_updates = s.client_updates;
      server_updates = s.server_updates;
      transcript = s.transcript;
      chain = chain;
      binder_key = none;
      client_early = s.client_early;
      early_exporter = s.early_exporter;
      client_handshake = client;
      server_handshake = server;
      client_application = s.client_application;
      server_application = s.server_application;
      exporter = s.exporter;
      resumption = s.resumption;
    })
    (session_of (note b (Handshake group secret)))
unfolding session_of note secret_of from until chain_of early_secret_of handshake_secret_of master_secret_of client_application_secret
    server_application_secret
shaken b group secret s {chain = chain} g p small e ed ek ec es en =
    let h = hash_of_lem s b 1 e p refl g.fed ed in
    let all = g.hellos p in
    let k : chain ≡ placed (handshake_secret_of (note b (Handshake group secret))) = handshake-chain b group secret s p small e ek
    in
    same-session
    (suite_is s b e)
    (kind_is s b e)
    (ran_is s b e)
    refl
    (stage_is s b e)
    (client_updates_is s b e)
    (server_updates_is s b e)
    (transcript_at s b 1 e p)
    k
    en
    (client_early_at s b 1 e p)
    (early_exporter_at s b 1 e p)
    (derived-place s b client_handshake (handshake_secret_of (note b (Handshake group secret))) 2 all (suite_is s b e) k
    (handshake_of_lem (note b (Handshake group secret))) h ec)
    (derived-place s b server_handshake (handshake_secret_of (note b (Handshake group secret))) 2 all (suite_is s b e) k
    (handshake_of_lem (note b (Handshake group secret))) h es)
    (client_application_at s b 1 e p)
    (server_application_at s b 1 e p)
    (exporter_at s b 1 e p)
    (resumption_at s b 1 e p)
