-- The secrets that the code derives are the book's.
use Prim.Native.Nat.{ℕ, ◌≤◌, ◌<◌, ◌^◌}
use mathlib.Core.Bool.{Bool, true, false, cond, ◌&&◌}
use mathlib.Core.List.{List, []}
use mathlib.Core.Path.{◌≡◌, sym, ap, ◌∙◌}
use native.Mathlib.Omega.{arith}
use lib.Dec.{eqb, leb}
use lib.ListN.{length, take}
use Rattle.buffer.specs.Buffer.{placed}
use Rattle.buffer.proofs.Laws.{take-placed}
use Rattle.suite.specs.Suite.{hash_length}
use Rattle.suite_hash.specs.Variants.{variant_of}
use Rattle.suite_hash.specs.Running.{running_of, finished}
use Rattle.suite_hash.specs.Hash.{hash}
use Rattle.suite_hash.proofs.Suites.{digested}
use Rattle.suite_hash.proofs.Whole.{length-hash}
use Rattle.hkdf.specs.Rfc8446.{derive_secret}
use Rattle.hkdf.proofs.Calls.{length-derive_secret}
use Rattle.schedule.specs.Labels.{Secret, label, binder_of}
use Rattle.schedule.specs.Labels.Secret.{binder_external, binder_resumption, client_application, server_application}
use Rattle.schedule.specs.Diagram.{from, until}
use Rattle.schedule.specs.Schedule.{from_hash, next_traffic_secret}
use Rattle.schedule.proofs.Laws.{from-hash, length-early, length-handshake, length_master, length-updated}
use Rattle.session.specs.declared.Session.{Session}
use Rattle.book.specs.Messages.{up_to, transcript}
use Rattle.book.specs.Book.{Book, fed_of}
use Rattle.session.specs.Values.{early_secret_of, handshake_secret_of, master_secret_of, chain_of, secret_of, client_application_secret, server_application_secret, transcript_hash}
use Rattle.session.specs.Session.{blank_running, session_of}
use Rattle.book.proofs.Transcripts.{up_to-none}
use Rattle.session.proofs.Fields.{suite_is, transcript_at}

-- lengths
pub early_of : (b : Book) → length (early_secret_of b) ≡ hash_length b.suite
unfolding early_secret_of
early_of b = length-early b.suite b.psk

pub handshake_of_lem : (b : Book) → length (handshake_secret_of b) ≡ hash_length b.suite
unfolding handshake_secret_of
handshake_of_lem b = length-handshake b.suite (early_secret_of b) b.secret

pub master_of : (b : Book) → length (master_secret_of b) ≡ hash_length b.suite
unfolding master_secret_of
master_of b = length_master b.suite (handshake_secret_of b)

pub length-secret_of : (x : Secret) (b : Book) → length (secret_of x b) ≡ hash_length b.suite
unfolding secret_of
length-secret_of x b = length-derive_secret b.suite (chain_of (from x) b) (label x)
    (transcript (up_to (until x) 0 b.messages))

pub length_client_application_secret : (b : Book) → length (client_application_secret b) ≡ hash_length b.suite
unfolding client_application_secret
length_client_application_secret b = length-updated b.suite b.client_updates (secret_of client_application b)
    (length-secret_of client_application b)

pub length_server_application_secret : (b : Book) → length (server_application_secret b) ≡ hash_length b.suite
unfolding server_application_secret
length_server_application_secret b = length-updated b.suite b.server_updates (secret_of server_application b)
    (length-secret_of server_application b)

-- the binder key is derived over nothing
binder_cases : (b : Book) (t : Bool)
    → secret_of (cond t binder_external binder_resumption) b ≡ derive_secret b.suite (early_secret_of b)
    (label (cond t binder_external binder_resumption)) []
unfolding secret_of from until chain_of transcript
binder_cases b true = ap (λ (ms : List (List ℕ)). derive_secret b.suite (early_secret_of b) (label binder_external)
    (transcript ms)) (up_to-none b.messages)
binder_cases b false = ap (λ (ms : List (List ℕ)). derive_secret b.suite (early_secret_of b) (label binder_resumption)
    (transcript ms)) (up_to-none b.messages)

pub binder_secret : (b : Book) → secret_of (binder_of b.kind) b ≡ derive_secret b.suite (early_secret_of b)
    (label (binder_of b.kind)) []
binder_secret b = binder_cases b (eqb b.kind 1)

-- the digest of the running hash
pub hash_of_lem : (s : Session) (b : Book) (k : ℕ) {d : List ℕ} → s ≡ session_of b → b.point ≡ k → (leb 1 k && leb k 4) ≡ true →
    fed_of b ≤ 1048576
    → d ≡ finished (variant_of s.suite) s.transcript → d ≡ placed (transcript_hash b)
unfolding transcript_hash
hash_of_lem s b k e p on small ed =
    digested b.suite (transcript b.messages) (below small)
    (transcript_at s b k e p ∙ ap (λ (t : Bool). cond t (running_of (variant_of b.suite) (transcript b.messages))
    blank_running) on)
    (ed ∙ ap (λ (u : ℕ). finished (variant_of u) s.transcript) (suite_is s b e))
  where
    below : fed_of b ≤ 1048576 → fed_of b < 2 ^ 61
    below h = omega arith

-- a secret derived from one in its place, over all messages so far
pub derived-place : (s : Session) (b : Book) (x : Secret) (S : List ℕ) (n : ℕ) {secret d r : List ℕ} → up_to n 0 b.messages ≡
    b.messages
    → s.suite ≡ b.suite → secret ≡ placed S → length S ≡ hash_length b.suite → d ≡ placed (transcript_hash b)
    → r ≡ placed (from_hash s.suite x (take (hash_length s.suite) secret) (take (hash_length s.suite) d))
    → r ≡ placed (derive_secret b.suite S (label x) (transcript (up_to n 0 b.messages)))
unfolding transcript_hash
derived-place s b x S n {secret} {d} all eu es ls ed er =
    er ∙ ap (λ (u : ℕ). placed (from_hash u x (take (hash_length u) secret) (take (hash_length u) d))) eu
    ∙ ap (λ (l : List ℕ). placed (from_hash b.suite x l (take (hash_length b.suite) d)))
    (ap (take (hash_length b.suite)) es ∙ take-placed (hash_length b.suite) S ls)
    ∙ ap (λ (l : List ℕ). placed (from_hash b.suite x S l))
    (ap (take (hash_length b.suite)) ed ∙ take-placed (hash_length b.suite) (hash b.suite (transcript b.messages))
    (length-hash b.suite (transcript b.messages)))
    ∙ ap placed (from-hash b.suite x S (transcript b.messages))
    ∙ ap (λ (ms : List (List ℕ)). placed (derive_secret b.suite S (label x) (transcript ms))) (sym all)

-- the next application secret
pub moved_place : (s : Session) (b : Book) (S : List ℕ) {secret r : List ℕ} → r ≡ placed
    (next_traffic_secret s.suite (take (hash_length s.suite) secret)) → s.suite ≡ b.suite
    → secret ≡ placed S → length S ≡ hash_length b.suite → r ≡ placed (next_traffic_secret b.suite S)
moved_place s b S {secret} er eu es ls =
    er ∙ ap (λ (u : ℕ). placed (next_traffic_secret u (take (hash_length u) secret))) eu
    ∙ ap (λ (l : List ℕ). placed (next_traffic_secret b.suite l))
    (ap (take (hash_length b.suite)) es ∙ take-placed (hash_length b.suite) S ls)
