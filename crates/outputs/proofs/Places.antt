-- The places that the calls read hold the book's secrets, and what is worked out from them is the book's.
use Prim.Native.Nat.{ℕ, ◌≤◌}
use mathlib.Core.Bool.{Bool, true, false, cond, not, ◌&&◌, ◌||◌}
use mathlib.Core.List.{List}
use mathlib.Core.Path.{◌≡◌, refl, sym, ap, ◌∙◌, subst}
use native.Mathlib.Omega.{arith}
use lib.Dec.{eqb, leb}
use lib.ListN.{length, take}
use borrow.Author.Tests.{eqb-true, ne_eqb}
use Rattle.refusal.proofs.Laws.{and-true, or-true}
use Rattle.buffer.specs.Buffer.{placed, same}
use Rattle.buffer.proofs.Laws.{take-placed}
use Rattle.suite.specs.Suite.{hash_length, max_label}
use Rattle.suite_hash.specs.Hash.{hash, max_input}
use Rattle.suite_hash.proofs.Whole.{length-hash}
use Rattle.schedule.specs.Labels.{binder_of}
use Rattle.schedule.specs.Labels.Secret.{client_early, early_exporter, client_handshake, server_handshake, exporter}
use Rattle.schedule.specs.Schedule.{within, traffic_keys, verify_data, tls_exporter}
use Rattle.schedule.proofs.Laws.{within_limit}
use Rattle.session.specs.declared.Session.{Session}
use Rattle.book.specs.Call.Call.{Keys, Finished, Check, Binder, Export}
use Rattle.book.specs.Messages.{transcript}
use Rattle.book.specs.Book.{Book, stage_of}
use Rattle.book.specs.Held.{early_held, handshake_held, application_held}
use Rattle.book.specs.Refusals.{number, Reached, length_in_force}
use Rattle.session.specs.Values.{secret_of, client_application_secret, server_application_secret, traffic_secret, transcript_hash, finished_value, binder_value, exported_value, written, verdict}
use Rattle.session.specs.Session.{place, session_of}
use Rattle.book.proofs.AcceptedReads.{CheckTaken, Finishing, keys-zero, check_zero, finished-zero, binder_zero, export_zero}
use Rattle.book.proofs.AcceptedReads.Finishing.{of_client, of_server}
use Rattle.book.proofs.Books.{good}
use Rattle.session.proofs.Fields.{suite_is, binder_key_at}
use Rattle.session.proofs.Secrets.{length-secret_of, length_client_application_secret, length_server_application_secret, hash_of_lem}
use Rattle.outputs.specs.Places.{named_place, base_place, exporter_place, finished_from}

-- a secret read back from its place
held : (s : Session) (b : Book) (S : List ℕ) {at : List ℕ} → s ≡ session_of b → at ≡ placed S → length S ≡ hash_length b.suite →
    take (hash_length s.suite) at ≡ S
held s b S {at} e ep el =
    ap (λ (u : ℕ). take (hash_length u) at) (suite_is s b e) ∙ ap (take (hash_length b.suite)) ep ∙ take-placed (hash_length b.suite)
    S el

length_choice : (t : Bool) (v w : List ℕ) {h : ℕ} → length v ≡ h → length w ≡ h → length (cond t v w) ≡ h
length_choice true v w p q = p
length_choice false v w p q = q

-- Keys
module _ (E H A : Bool) (v1 v2 v3 v4 v5 : List ℕ) where
  abbrev Named : ℕ → Type 0
  Named name =
      cond (eqb name 1) (place E v1) (cond (eqb name 2) (place H v2)
      (cond (eqb name 3) (place H v3) (cond (eqb name 4) (place A v4) (place A v5))))
      ≡ placed (cond (eqb name 1) v1 (cond (eqb name 2) v2 (cond (eqb name 3) v3 (cond (eqb name 4) v4 v5))))

  at_name : (name n : ℕ) → Named n → eqb name n ≡ true → Named name
  at_name name n is q = subst Named (sym (eqb-true name n q)) is

  by_name : (name : ℕ) → ((eqb name 1 && E) || (((eqb name 2 || eqb name 3) && H) || ((eqb name 4 || eqb name 5) && A))) ≡ true
      → Named name
  by_name name =
      or-true (eqb name 1 && E) _
      (λ e. let h = and-true (eqb name 1) E e in at_name name 1 (ap (λ (t : Bool). place t v1) h.1) h.0)
      (or-true ((eqb name 2 || eqb name 3) && H) _
      (λ e. let h = and-true (eqb name 2 || eqb name 3) H e in
      or-true (eqb name 2) (eqb name 3) (at_name name 2 (ap (λ (t : Bool). place t v2) h.1))
      (at_name name 3 (ap (λ (t : Bool). place t v3) h.1)) h.0)
      (λ e. let h = and-true (eqb name 4 || eqb name 5) A e in
      or-true (eqb name 4) (eqb name 5) (at_name name 4 (ap (λ (t : Bool). place t v4) h.1))
      (at_name name 5 (ap (λ (t : Bool). place t v5) h.1)) h.0))

length-traffic_secret : (b : Book) (name : ℕ) → length (traffic_secret b name) ≡ hash_length b.suite
unfolding traffic_secret
length-traffic_secret b name =
    length_choice (eqb name 1) _ _ (length-secret_of client_early b)
    (length_choice (eqb name 2) _ _ (length-secret_of client_handshake b)
    (length_choice (eqb name 3) _ _ (length-secret_of server_handshake b)
    (length_choice (eqb name 4) _ _ (length_client_application_secret b) (length_server_application_secret b))))

pub keys-value : (s : Session) (b : Book) (name : ℕ) (out : List ℕ) {secret : List ℕ} → s ≡ session_of b → number b
    (Keys name out) ≡ 0 → secret ≡ named_place s name
    → traffic_keys s.suite (take (hash_length s.suite) secret) ≡ written b (Keys name out)
unfolding number session_of written traffic_secret
keys-value s b name out {secret} e z es =
    let t = keys-zero b.point b.suite b.ran name (length out) z in
    let p = es ∙ ap (λ (x : Session). named_place x name) e
    ∙ by_name (early_held b.point b.ran) (handshake_held b.point) (application_held b.point) (secret_of client_early b)
    (secret_of client_handshake b) (secret_of server_handshake b) (client_application_secret b) (server_application_secret b) name t.held
    in
    ap (λ (u : ℕ). traffic_keys u (take (hash_length s.suite) secret)) (suite_is s b e)
    ∙ ap (traffic_keys b.suite) (held s b (traffic_secret b name) e p (length-traffic_secret b name))

-- Finished, Check
choose_base : (t on : Bool) (v w : List ℕ) → on ≡ true → cond t (place on v) (place on w) ≡ placed (cond t v w)
choose_base true on v w h = ap (λ (x : Bool). place x v) h
choose_base false on v w h = ap (λ (x : Bool). place x w) h

base_held : (s : Session) (b : Book) (side k : ℕ) → s ≡ session_of b → b.point ≡ k → handshake_held k ≡ true
    → base_place s side ≡ placed (cond (eqb side 1) (secret_of client_handshake b) (secret_of server_handshake b))
unfolding session_of
base_held s b side k e p on =
    ap (λ (x : Session). base_place x side) e
    ∙ choose_base (eqb side 1) (handshake_held b.point) (secret_of client_handshake b) (secret_of server_handshake b)
    (ap (λ (n : ℕ). handshake_held n) p ∙ on)

length-transcript_hash : (b : Book) → length (transcript_hash b) ≡ hash_length b.suite
unfolding transcript_hash
length-transcript_hash b = length-hash b.suite (transcript b.messages)

-- verify_data of a base and a digest in their places
verified : (s : Session) (b : Book) (B D : List ℕ) {base digest : List ℕ} → s ≡ session_of b → base ≡ placed B → length B ≡
    hash_length b.suite
    → digest ≡ placed D → length D ≡ hash_length b.suite
    → verify_data s.suite (take (hash_length s.suite) base) (take (hash_length s.suite) digest) ≡ verify_data b.suite B D
verified s b B D {base} {digest} e eb lb ed ld =
    ap (λ (u : ℕ). verify_data u (take (hash_length s.suite) base) (take (hash_length s.suite) digest)) (suite_is s b e)
    ∙ ap (λ (l : List ℕ). verify_data b.suite l (take (hash_length s.suite) digest)) (held s b B e eb lb)
    ∙ ap (verify_data b.suite B) (held s b D e ed ld)

finished_at : (s : Session) (b : Book) (side k : ℕ) → Reached b → s ≡ session_of b → b.point ≡ k → (leb 1 k && leb k 4) ≡ true →
    handshake_held k ≡ true
    → finished_from s side ≡ finished_value b side
unfolding finished_from finished_value
finished_at s b side k r e p on h =
    verified s b (cond (eqb side 1) (secret_of client_handshake b) (secret_of server_handshake b)) (transcript_hash b) e
    (base_held s b side k e p h) (length_choice (eqb side 1) _ _ (length-secret_of client_handshake b)
    (length-secret_of server_handshake b))
    (hash_of_lem s b k e p on (good r).fed refl) (length-transcript_hash b)

pub finished_from_lem : (s : Session) (b : Book) (side : ℕ) → Reached b → s ≡ session_of b → CheckTaken b.point (stage_of b) side →
    finished_from s side ≡ finished_value b side
finished_from_lem s b side r e t = go t.at
  where
    go : Finishing b.point (stage_of b) side → finished_from s side ≡ finished_value b side
    go (of_client is p st) = finished_at s b side 3 r e p refl refl
    go (of_server is p st) = finished_at s b side 2 r e p refl refl

pub finished-value : (s : Session) (b : Book) (side : ℕ) (out : List ℕ) → Reached b → s ≡ session_of b → number b
    (Finished side out) ≡ 0
    → finished_from s side ≡ written b (Finished side out)
unfolding number written
finished-value s b side out r e z = finished_from_lem s b side r e (finished-zero b.point (stage_of b) b.suite side (length
    out) z).0

pub check_value : (s : Session) (b : Book) (side : ℕ) (received : List ℕ) → Reached b → s ≡ session_of b → number b
    (Check side received) ≡ 0
    → same received (finished_from s side) ≡ verdict b (Check side received)
unfolding number verdict
check_value s b side received r e z = ap (same received) (finished_from_lem s b side r e (check_zero b.point (stage_of b) side z))

-- Binder
binder_held_lem : (s : Session) (b : Book) → s ≡ session_of b → b.point ≡ 1 → (b.kind ≡ 0 → ⊥) → s.binder_key ≡ placed
    (secret_of (binder_of b.kind) b)
binder_held_lem s b e p some =
    binder_key_at s b 1 e p ∙ ap (λ (t : Bool). place (not t) (secret_of (binder_of b.kind) b)) (ne_eqb b.kind 0 some)

pub binder_value_lem : (s : Session) (b : Book) (hello out : List ℕ) {digest : List ℕ} → s ≡ session_of b → number b
    (Binder hello out) ≡ 0
    → digest ≡ placed (hash s.suite (within max_input hello))
    → verify_data s.suite (take (hash_length s.suite) s.binder_key) (take (hash_length s.suite) digest) ≡ written b
    (Binder hello out)
unfolding number written binder_value
binder_value_lem s b hello out e z ed =
    let t = binder_zero b.point b.suite b.kind hello (length out) z in
    let small : length hello ≤ 65535 = t.small in
    let w = within_limit max_input hello (omega arith) in
    verified s b (secret_of (binder_of b.kind) b) (hash b.suite hello) e
    (binder_held_lem s b e t.at t.some) (length-secret_of (binder_of b.kind) b)
    (ed ∙ ap (λ (u : ℕ). placed (hash u (within max_input hello))) (suite_is s b e) ∙ ap
    (λ (l : List ℕ). placed (hash b.suite l)) w) (length-hash b.suite hello)

-- Export
module _ (E A : Bool) (v w : List ℕ) where
  abbrev Exporter : ℕ → Type 0
  Exporter name = cond (eqb name 1) (place E v) (place A w) ≡ placed (cond (eqb name 1) v w)

  by-exporter : (name : ℕ) → ((eqb name 1 && E) || (eqb name 2 && A)) ≡ true → Exporter name
  by-exporter name =
      or-true (eqb name 1 && E) _
      (λ e. let h = and-true (eqb name 1) E e in subst Exporter (sym (eqb-true name 1 h.0))
      (ap (λ (t : Bool). place t v) h.1))
      (λ e. let h = and-true (eqb name 2) A e in subst Exporter (sym (eqb-true name 2 h.0))
      (ap (λ (t : Bool). place t w) h.1))

pub export_value : (s : Session) (b : Book) (name : ℕ) (l context : List ℕ) (asked : ℕ) (out : List ℕ) {m : ℕ} {secret : List ℕ}
    → s ≡ session_of b
    → number b (Export name l context asked out) ≡ 0 → m ≡ length_in_force asked → secret ≡ exporter_place s name
    → tls_exporter s.suite (take (hash_length s.suite) secret) (within max_label l) (within max_input context) m ≡ written b
    (Export name l context asked out)
unfolding number session_of written exported_value
export_value s b name l context asked out {m} {secret} e z em es =
    let t = export_zero b.point b.suite b.ran name (length l) (length context) asked (length out) z in
    let small : length context ≤ 65535 = t.small_context in
    let p = es ∙ ap (λ (x : Session). exporter_place x name) e
    ∙ by-exporter (early_held b.point b.ran) (application_held b.point) (secret_of early_exporter b) (secret_of exporter b)
    name t.held in
    let S = cond (eqb name 1) (secret_of early_exporter b) (secret_of exporter b) in
    ap (λ (u : ℕ). tls_exporter u (take (hash_length s.suite) secret) (within max_label l) (within max_input context) m)
    (suite_is s b e)
    ∙ ap (λ (x : List ℕ). tls_exporter b.suite x (within max_label l) (within max_input context) m)
    (held s b S e p (length_choice (eqb name 1) _ _ (length-secret_of early_exporter b) (length-secret_of exporter b)))
    ∙ ap (λ (x : List ℕ). tls_exporter b.suite S x (within max_input context) m) (within_limit max_label l t.small_label)
    ∙ ap (λ (x : List ℕ). tls_exporter b.suite S l x m) (within_limit max_input context (omega arith))
    ∙ ap (tls_exporter b.suite S l context) em
