-- The session after an accepted Begin is that of the book with it noted.
use Prim.Native.Nat.{ℕ, ◌≤◌}
use mathlib.Core.Bool.{not}
use mathlib.Core.List.{List, []}
use mathlib.Core.Path.{◌≡◌, refl, sym, ap, ◌∙◌}
use native.Mathlib.Omega.{arith}
use lib.Dec.{eqb}
use lib.ListN.{length, take}
use Rattle.buffer.specs.Buffer.{placed}
use Rattle.buffer.proofs.Laws.{take-placed}
use Rattle.suite.specs.Suite.{hash_length}
use Rattle.suite_hash.specs.declared.running.Running.{Running}
use Rattle.suite_hash.specs.Variants.{variant_of}
use Rattle.suite_hash.specs.Running.{start}
use Rattle.suite_hash.proofs.Suites.{started}
use Rattle.hkdf.specs.Refusals.{max_message}
use Rattle.hkdf.specs.Rfc8446.{derive_secret}
use Rattle.schedule.specs.Labels.{label, binder_of}
use Rattle.schedule.specs.Schedule.{within, early_secret}
use Rattle.schedule.proofs.Laws.{within_limit}
use Rattle.session.specs.declared.Session.{Session}
use Rattle.book.specs.Call.Call.{Begin}
use Rattle.book.specs.Messages.{stage_from, transcript}
use Rattle.book.specs.Book.{Book, blank_at, note}
use Rattle.session.specs.Values.{early_secret_of, secret_of}
use Rattle.session.specs.Session.{place, chain_at, session_of}
use Rattle.session.proofs.Secrets.{binder_secret, early_of}
use Rattle.session.proofs.Fields.{same-session}

begun_binder : (b : Book) (suite kind : ℕ) (psk : List ℕ) {chain : List ℕ} → chain ≡ placed (early_secret suite psk)
    → derive_secret suite (take (hash_length suite) chain) (label (binder_of kind)) [] ≡ secret_of (binder_of kind)
    (note b (Begin suite kind psk))
unfolding note early_secret_of
begun_binder b suite kind psk ec =
    ap (λ (l : List ℕ). derive_secret suite l (label (binder_of kind)) [])
    (ap (take (hash_length suite)) ec ∙ take-placed (hash_length suite) (early_secret suite psk)
    (early_of (note b (Begin suite kind psk))))
    ∙ sym (binder_secret (note b (Begin suite kind psk)))

pub begun : (b : Book) (suite kind : ℕ) (psk : List ℕ) (z : Session) {chain binder : List ℕ} {running : Running} → z ≡ session_of
    (blank_at 0) → length psk ≤ 128
    → chain ≡ placed (early_secret suite (within max_message psk))
    → binder ≡ place (not (eqb kind 0)) (derive_secret suite (take (hash_length suite) chain) (label (binder_of kind)) []) → running ≡
    start (variant_of suite)
    → ◌≡◌ {A = Session} (record {
      suite = suite;
      kind = kind;
      early = z.early;
      point = 1;
      stage = z.stage;
      client_updates = z.client_updates;
      server_updates = z.server_updates;
      transcript = running;
      chain = chain;
      binder_key = binder;
      client_early = z.client_early;
      early_exporter = z.early_exporter;
      client_handshake = z.client_handshake;
      server_handshake = z.server_handshake;
      client_application = z.client_application;
      server_application = z.server_application;
      exporter = z.exporter;
      resumption = z.resumption;
    })
    (session_of (note b (Begin suite kind psk)))
unfolding session_of note stage_from transcript early_secret_of
begun b suite kind psk z {chain} {binder} ez small ec eb er =
    let all : within max_message psk ≡ psk = within_limit max_message psk (omega arith) in
    let c : chain ≡ placed (early_secret suite psk) = ec ∙ ap (λ (l : List ℕ). placed (early_secret suite l)) all in
    same-session
    refl refl
    (ap (λ (x : Session). x.early) ez)
    refl
    (ap (λ (x : Session). x.stage) ez)
    (ap (λ (x : Session). x.client_updates) ez)
    (ap (λ (x : Session). x.server_updates) ez)
    (started suite er)
    c
    (eb ∙ ap (place (not (eqb kind 0))) (begun_binder b suite kind psk c))
    (ap (λ (x : Session). x.client_early) ez)
    (ap (λ (x : Session). x.early_exporter) ez)
    (ap (λ (x : Session). x.client_handshake) ez)
    (ap (λ (x : Session). x.server_handshake) ez)
    (ap (λ (x : Session). x.client_application) ez)
    (ap (λ (x : Session). x.server_application) ez)
    (ap (λ (x : Session). x.exporter) ez)
    (ap (λ (x : Session). x.resumption) ez)

-- the chain secret right after Begin
pub begun_chain : (b : Book) (suite kind : ℕ) (psk : List ℕ) → chain_at (note b (Begin suite kind psk)) ≡ early_secret suite psk
unfolding note early_secret_of
begun_chain b suite kind psk = refl
