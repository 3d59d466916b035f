-- The session after an accepted Update is that of the book with it noted.
use Prim.Native.Nat.{ℕ, ◌+◌}
use mathlib.Core.Bool.{Bool, true, false, cond, not}
use mathlib.Core.List.{List}
use mathlib.Core.Path.{◌≡◌, refl, sym, ap, ◌∙◌}
use native.Mathlib.Numerals.{add-one}
use lib.Dec.{eqb}
use lib.ListN.{take}
use borrow.Author.Tests.{not-true}
use Rattle.buffer.specs.Buffer.{placed}
use Rattle.suite.specs.Suite.{hash_length}
use Rattle.schedule.specs.Labels.Secret.{client_application, server_application}
use Rattle.schedule.specs.Diagram.{from, until}
use Rattle.schedule.specs.Schedule.{next_traffic_secret, updated}
use Rattle.book.specs.Call.Call.{Update}
use Rattle.book.specs.Book.{Book, note}
use Rattle.book.specs.Held.{binder_held, application_held}
use Rattle.session.specs.declared.Session.{Session}
use Rattle.session.specs.Values.{early_secret_of, handshake_secret_of, master_secret_of, chain_of, secret_of, client_application_secret, server_application_secret}
use Rattle.session.specs.Session.{place, session_of}
use Rattle.session.proofs.Secrets.{binder_secret, moved_place, length_client_application_secret, length_server_application_secret}
use Rattle.session.proofs.Fields.{same-session, suite_is, client_updates_is, server_updates_is, client_application_at, server_application_at}
use Rattle.complete_stage.specs.Kept.{side_secret}

-- A side's secret afterwards: moved on once if it is this side's turn, else as it was.
side_after : (turn : Bool) (suite n : ℕ) (S : List ℕ) {made old : List ℕ}
    → (turn ≡ true → made ≡ placed (next_traffic_secret suite (updated suite n S))) → old ≡ placed (updated suite n S)
    → cond turn made old ≡ placed (updated suite (cond turn (n + 1) n) S)
unfolding updated
side_after true suite n S em eo = em refl ∙ ap (λ (k : ℕ). placed (updated suite k S)) (sym (add-one n))
side_after false suite n S em eo = eo

other_turn : {A : Type 0} (turn : Bool) (x y : A) → cond turn x y ≡ cond (not turn) y x
other_turn true x y = refl
other_turn false x y = refl

pub renewed : (b : Book) (s : Session) (side : ℕ) (client : Bool) {made : List ℕ} → b.point ≡ 4 → eqb side 1 ≡ client
    → s ≡ session_of b → made ≡ placed (next_traffic_secret s.suite (take (hash_length s.suite) (side_secret s side)))
    → ◌≡◌ {A = Session} (record {
      suite = s.suite;
      kind = s.kind;
      early = s.early;
      point = s.point;
      stage = s.stage;
      client_updates = cond client (s.client_updates + 1) s.client_updates;
      server_updates = cond client s.server_updates (s.server_updates + 1);
      transcript = s.transcript;
      chain = s.chain;
      binder_key = s.binder_key;
      client_early = s.client_early;
      early_exporter = s.early_exporter;
      client_handshake = s.client_handshake;
      server_handshake = s.server_handshake;
      client_application = cond client made s.client_application;
      server_application = cond client s.server_application made;
      exporter = s.exporter;
      resumption = s.resumption;
    })
    (session_of (note b (Update side)))
unfolding session_of note secret_of from until chain_of early_secret_of handshake_secret_of master_secret_of client_application_secret
    server_application_secret updated
renewed b s side client {made} p is e em =
    let of : (t : Bool) → client ≡ t → made ≡ placed (next_traffic_secret s.suite (take (hash_length s.suite)
    (cond t s.client_application s.server_application))) = λ t y. em ∙ ap
    (λ (q : Bool). placed (next_traffic_secret s.suite (take (hash_length s.suite)
    (cond q s.client_application s.server_application)))) (is ∙ y) in
    let held : (l : List ℕ) → placed l ≡ place (application_held b.point) l = λ l. ap
    (λ (n : ℕ). place (application_held n) l) (sym p) in
    same-session
    (ap (λ (x : Session). x.suite) e)
    (ap (λ (x : Session). x.kind) e)
    (ap (λ (x : Session). x.early) e)
    (ap (λ (x : Session). x.point) e)
    (ap (λ (x : Session). x.stage) e)
    (ap (λ (n : ℕ). cond client (n + 1) n) (client_updates_is s b e) ∙ ap
    (λ (t : Bool). cond t (b.client_updates + 1) b.client_updates) (sym is))
    (ap (λ (n : ℕ). cond client n (n + 1)) (server_updates_is s b e) ∙ ap
    (λ (t : Bool). cond t b.server_updates (b.server_updates + 1)) (sym is))
    (ap (λ (x : Session). x.transcript) e)
    (ap (λ (x : Session). x.chain) e)
    (ap (λ (x : Session). x.binder_key) e ∙ ap (place (binder_held b.point b.kind))
    (binder_secret b ∙ sym (binder_secret (note b (Update side)))))
    (ap (λ (x : Session). x.client_early) e)
    (ap (λ (x : Session). x.early_exporter) e)
    (ap (λ (x : Session). x.client_handshake) e)
    (ap (λ (x : Session). x.server_handshake) e)
    (side_after client b.suite b.client_updates (secret_of client_application b)
    (λ y. moved_place s b (client_application_secret b) (of true y) (suite_is s b e) (client_application_at s b 4 e p)
    (length_client_application_secret b)) (client_application_at s b 4 e p) ∙ ap
    (λ (t : Bool). placed (updated b.suite (cond t (b.client_updates + 1) b.client_updates) (secret_of client_application b)))
    (sym is) ∙ held _)
    (other_turn client _ _ ∙ side_after (not client) b.suite b.server_updates (secret_of server_application b)
    (λ y. moved_place s b (server_application_secret b) (of false (not-true client y)) (suite_is s b e)
    (server_application_at s b 4 e p) (length_server_application_secret b)) (server_application_at s b 4 e p) ∙ ap
    (λ (n : ℕ). placed (updated b.suite n (secret_of server_application b))) (sym (other_turn client _ _)) ∙ ap
    (λ (t : Bool). placed (updated b.suite (cond t b.server_updates (b.server_updates + 1)) (secret_of server_application b)))
    (sym is) ∙ held _)
    (ap (λ (x : Session). x.exporter) e)
    (ap (λ (x : Session). x.resumption) e)
