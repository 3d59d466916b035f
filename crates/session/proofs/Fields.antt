-- The fields of a session that a book describes, at a known point.
use Prim.Native.Nat.{ℕ}
use mathlib.Core.Bool.{cond, ◌&&◌}
use mathlib.Core.Path.{◌≡◌, refl, ap, ◌∙◌}
use lib.Dec.{eqb, leb}
use Rattle.suite_hash.specs.Variants.{variant_of}
use Rattle.suite_hash.specs.Running.{running_of}
use Rattle.schedule.specs.Labels.{binder_of}
use Rattle.schedule.specs.Labels.Secret.{client_early, early_exporter, client_handshake, server_handshake, exporter, resumption}
use Rattle.session.specs.declared.Session.{Session}
use Rattle.book.specs.Messages.{transcript}
use Rattle.book.specs.Book.{Book, stage_of}
use Rattle.book.specs.Held.{chain_held, binder_held, early_held, handshake_held, application_held, resumption_held}
use Rattle.session.specs.Values.{early_secret_of, handshake_secret_of, master_secret_of, secret_of, client_application_secret, server_application_secret}
use Rattle.session.specs.Session.{place, chain_at, blank_running, session_of}

-- two sessions with equal fields
pub same-session : {s t : Session} → s.suite ≡ t.suite → s.kind ≡ t.kind → s.early ≡ t.early → s.point ≡ t.point →
    s.stage ≡ t.stage
    → s.client_updates ≡ t.client_updates → s.server_updates ≡ t.server_updates → s.transcript ≡ t.transcript
    → s.chain ≡ t.chain → s.binder_key ≡ t.binder_key → s.client_early ≡ t.client_early → s.early_exporter ≡
    t.early_exporter
    → s.client_handshake ≡ t.client_handshake → s.server_handshake ≡ t.server_handshake
    → s.client_application ≡ t.client_application → s.server_application ≡ t.server_application
    → s.exporter ≡ t.exporter → s.resumption ≡ t.resumption → s ≡ t
same-session a b c d e f g h i j k l m n o p q r =
    λ x. record {
      suite = a x;
      kind = b x;
      early = c x;
      point = d x;
      stage = e x;
      client_updates = f x;
      server_updates = g x;
      transcript = h x;
      chain = i x;
      binder_key = j x;
      client_early = k x;
      early_exporter = l x;
      client_handshake = m x;
      server_handshake = n x;
      client_application = o x;
      server_application = p x;
      exporter = q x;
      resumption = r x;
    }

-- the numbers
module _ (s : Session) (b : Book) (e : s ≡ session_of b) where
  pub suite_is : s.suite ≡ b.suite
  unfolding session_of
  suite_is = ap (λ (x : Session). x.suite) e

  pub kind_is : s.kind ≡ b.kind
  unfolding session_of
  kind_is = ap (λ (x : Session). x.kind) e

  pub ran_is : s.early ≡ b.ran
  unfolding session_of
  ran_is = ap (λ (x : Session). x.early) e

  pub point_is : s.point ≡ b.point
  unfolding session_of
  point_is = ap (λ (x : Session). x.point) e

  pub stage_is : s.stage ≡ stage_of b
  unfolding session_of
  stage_is = ap (λ (x : Session). x.stage) e

  pub client_updates_is : s.client_updates ≡ b.client_updates
  unfolding session_of
  client_updates_is = ap (λ (x : Session). x.client_updates) e

  pub server_updates_is : s.server_updates ≡ b.server_updates
  unfolding session_of
  server_updates_is = ap (λ (x : Session). x.server_updates) e

-- the running hash and the ten places
module _ (s : Session) (b : Book) (k : ℕ) (e : s ≡ session_of b) (p : b.point ≡ k) where
  pub transcript_at : s.transcript ≡ cond (leb 1 k && leb k 4) (running_of (variant_of b.suite) (transcript b.messages))
      blank_running
  unfolding session_of
  transcript_at = ap (λ (x : Session). x.transcript) e ∙ ap
      (λ (n : ℕ). cond (leb 1 n && leb n 4) (running_of (variant_of b.suite) (transcript b.messages)) blank_running) p

  pub chain_at_lem : s.chain ≡ place (chain_held k) (cond (eqb k 1) (early_secret_of b) (cond (eqb k 2) (handshake_secret_of b)
      (master_secret_of b)))
  unfolding session_of
  chain_at_lem = ap (λ (x : Session). x.chain) e ∙ ap (λ (n : ℕ). place (chain_held n) (cond (eqb n 1) (early_secret_of b)
      (cond (eqb n 2) (handshake_secret_of b) (master_secret_of b)))) p

  pub binder_key_at : s.binder_key ≡ place (binder_held k b.kind) (secret_of (binder_of b.kind) b)
  unfolding session_of
  binder_key_at = ap (λ (x : Session). x.binder_key) e ∙ ap (λ (n : ℕ). place (binder_held n b.kind) (secret_of (binder_of
      b.kind) b)) p

  pub client_early_at : s.client_early ≡ place (early_held k b.ran) (secret_of client_early b)
  unfolding session_of
  client_early_at = ap (λ (x : Session). x.client_early) e ∙ ap
      (λ (n : ℕ). place (early_held n b.ran) (secret_of client_early b)) p

  pub early_exporter_at : s.early_exporter ≡ place (early_held k b.ran) (secret_of early_exporter b)
  unfolding session_of
  early_exporter_at = ap (λ (x : Session). x.early_exporter) e ∙ ap
      (λ (n : ℕ). place (early_held n b.ran) (secret_of early_exporter b)) p

  pub client_handshake_at : s.client_handshake ≡ place (handshake_held k) (secret_of client_handshake b)
  unfolding session_of
  client_handshake_at = ap (λ (x : Session). x.client_handshake) e ∙ ap
      (λ (n : ℕ). place (handshake_held n) (secret_of client_handshake b)) p

  pub server_handshake_at : s.server_handshake ≡ place (handshake_held k) (secret_of server_handshake b)
  unfolding session_of
  server_handshake_at = ap (λ (x : Session). x.server_handshake) e ∙ ap
      (λ (n : ℕ). place (handshake_held n) (secret_of server_handshake b)) p

  pub client_application_at : s.client_application ≡ place (application_held k) (client_application_secret b)
  unfolding session_of
  client_application_at = ap (λ (x : Session). x.client_application) e ∙ ap
      (λ (n : ℕ). place (application_held n) (client_application_secret b)) p

  pub server_application_at : s.server_application ≡ place (application_held k) (server_application_secret b)
  unfolding session_of
  server_application_at = ap (λ (x : Session). x.server_application) e ∙ ap
      (λ (n : ℕ). place (application_held n) (server_application_secret b)) p

  pub exporter_at : s.exporter ≡ place (application_held k) (secret_of exporter b)
  unfolding session_of
  exporter_at = ap (λ (x : Session). x.exporter) e ∙ ap (λ (n : ℕ). place (application_held n) (secret_of exporter b)) p

  pub resumption_at : s.resumption ≡ place (resumption_held k) (secret_of resumption b)
  unfolding session_of
  resumption_at = ap (λ (x : Session). x.resumption) e ∙ ap (λ (n : ℕ). place (resumption_held n) (secret_of resumption b)) p

-- the places at any point
module _ (b : Book) where
  pub chain_is : (session_of b).chain ≡ place (chain_held b.point) (chain_at b)
  unfolding session_of
  chain_is = refl

  pub binder_key_is : (session_of b).binder_key ≡ place (binder_held b.point b.kind) (secret_of (binder_of b.kind) b)
  unfolding session_of
  binder_key_is = refl

  pub client_early_is : (session_of b).client_early ≡ place (early_held b.point b.ran) (secret_of client_early b)
  unfolding session_of
  client_early_is = refl

  pub early_exporter_is : (session_of b).early_exporter ≡ place (early_held b.point b.ran) (secret_of early_exporter b)
  unfolding session_of
  early_exporter_is = refl

  pub client_handshake_is : (session_of b).client_handshake ≡ place (handshake_held b.point) (secret_of client_handshake b)
  unfolding session_of
  client_handshake_is = refl

  pub server_handshake_is : (session_of b).server_handshake ≡ place (handshake_held b.point) (secret_of server_handshake b)
  unfolding session_of
  server_handshake_is = refl

  pub client_application_is : (session_of b).client_application ≡ place (application_held b.point) (client_application_secret b)
  unfolding session_of
  client_application_is = refl

  pub server_application_is : (session_of b).server_application ≡ place (application_held b.point) (server_application_secret b)
  unfolding session_of
  server_application_is = refl

  pub exporter_is : (session_of b).exporter ≡ place (application_held b.point) (secret_of exporter b)
  unfolding session_of
  exporter_is = refl

  pub resumption_is : (session_of b).resumption ≡ place (resumption_held b.point) (secret_of resumption b)
  unfolding session_of
  resumption_is = refl
