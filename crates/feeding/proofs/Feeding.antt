-- Feed: the session after it is that of the book with the message noted.
use Prim.Native.Nat.{ℕ, ◌+◌, ◌≤◌, ◌<◌, ◌^◌}
use mathlib.Core.Bool.{Bool, true, false, cond, ◌&&◌}
use mathlib.Core.List.{List, [], ◌∷◌, ◌++◌}
use mathlib.Core.Path.{◌≡◌, refl, sym, ap, ◌∙◌}
use native.Mathlib.Omega.{arith}
use lib.Dec.{eqb, leb}
use lib.ListN.{length}
use borrow.Author.Tests.{eqb-true}
use Rattle.refusal.proofs.Laws.{true-false, and-true}
use Rattle.suite_hash.specs.declared.running.Running.{Running}
use Rattle.suite_hash.specs.Variants.{variant_of}
use Rattle.suite_hash.specs.Running.{running_of, absorbed}
use Rattle.suite_hash.proofs.Suites.{counted, more}
use Rattle.hkdf.specs.Rfc8446.{derive_secret}
use Rattle.schedule.specs.Labels.{Secret, label, binder_of}
use Rattle.schedule.specs.Labels.Secret.{binder_external, binder_resumption, client_early, early_exporter, client_handshake, server_handshake, client_application, server_application, exporter, resumption}
use Rattle.schedule.specs.Schedule.{updated}
use Rattle.schedule.specs.Diagram.{Chain, from, until}
use Rattle.schedule.specs.Diagram.Chain.{the_early_secret, the_handshake_secret, the_master_secret}
use Rattle.session.specs.declared.Session.{Session}
use Rattle.book.specs.Call.Call.{Feed}
use Rattle.book.specs.Messages.{type_of, stage_after, up_to, transcript}
use Rattle.book.specs.Book.{Book, stage_of, fed_of, note}
use Rattle.book.specs.Refusals.{number, feed_number, Reached}
use Rattle.book.specs.Held.{early_held, binder_held, handshake_held, application_held, resumption_held}
use Rattle.session.specs.Values.{early_secret_of, handshake_secret_of, master_secret_of, chain_of, secret_of, client_application_secret, server_application_secret}
use Rattle.session.specs.Session.{place, blank_running, session_of}
use Rattle.book.proofs.Accepted.{Taking, FeedTaken, feed_zero}
use Rattle.book.proofs.Accepted.Taking.{at_early, at_handshake, at_application}
use Rattle.book.proofs.Books.{Good, good}
use Rattle.book.proofs.Transcripts.{stage-snoc, transcript-snoc, up_to-kept}
use Rattle.session.proofs.Fields.{same-session, suite_is, point_is, stage_is}

fed_chain : (b : Book) (m : List ℕ) (c : Chain) → chain_of c (note b (Feed m)) ≡ chain_of c b
unfolding note chain_of early_secret_of handshake_secret_of master_secret_of
fed_chain b m the_early_secret = refl
fed_chain b m the_handshake_secret = refl
fed_chain b m the_master_secret = refl

-- a secret whose transcript ends before the message stays what it was
fed_secret : (b : Book) (m : List ℕ) (x : Secret) → until x ≤ stage_of b → secret_of x (note b (Feed m)) ≡ secret_of x b
unfolding secret_of note
fed_secret b m x h =
    ap (λ (c : List ℕ). derive_secret b.suite c (label x) (transcript (up_to (until x) 0 (b.messages ++ (m ∷ [])))))
    (fed_chain b m (from x))
    ∙ ap (λ (ms : List (List ℕ)). derive_secret b.suite (chain_of (from x) b) (label x) (transcript ms))
    (up_to-kept (until x) 0 b.messages m h)

binder_until : (t : Bool) (n : ℕ) → until (cond t binder_external binder_resumption) ≤ n
unfolding until
binder_until true n = omega arith
binder_until false n = omega arith

-- a place that is held only where its value is kept
kept : (t : Bool) (v w : List ℕ) → (t ≡ true → w ≡ v) → place t v ≡ place t w
kept true v w h = ap (place true) (sym (h refl))
kept false v w h = refl

early-stage : (b : Book) → Good b → early_held b.point b.ran ≡ true → 1 ≤ stage_of b
early-stage b g h =
    let one : b.ran ≡ 1 = eqb-true b.ran 1 (and-true (eqb b.ran 1) (leb 1 b.point && leb b.point 3) h).0 in
    g.first (λ z. some (sym z ∙ one))
  where
    some : ◌≡◌ {A = ℕ} 0 1 → ⊥
    some e = omega arith

handshake-stage : (point stage : ℕ) → Taking point stage → handshake_held point ≡ true → 2 ≤ stage
handshake-stage point stage (at_early p h) t = absurd (true-false (sym t ∙ ap handshake_held p))
handshake-stage point stage (at_handshake p h) t = omega arith
handshake-stage point stage (at_application p h) t = omega arith

application-stage : (point stage : ℕ) → Taking point stage → application_held point ≡ true → 3 ≤ stage
application-stage point stage (at_early p h) t = absurd (true-false (sym t ∙ ap application_held p))
application-stage point stage (at_handshake p h) t = absurd (true-false (sym t ∙ ap application_held p))
application-stage point stage (at_application p h) t = omega arith

resumption-stage : (point stage : ℕ) → Taking point stage → resumption_held point ≡ true → 4 ≤ stage
resumption-stage point stage (at_early p h) t = absurd (true-false (sym t ∙ ap resumption_held p))
resumption-stage point stage (at_handshake p h) t = absurd (true-false (sym t ∙ ap resumption_held p))
resumption-stage point stage (at_application p h) t = absurd (true-false (sym t ∙ ap resumption_held p))

running_on : (point stage : ℕ) → Taking point stage → (leb 1 point && leb point 4) ≡ true
running_on point stage (at_early p h) = ap (λ (n : ℕ). leb 1 n && leb n 4) p
running_on point stage (at_handshake p h) = ap (λ (n : ℕ). leb 1 n && leb n 4) p
running_on point stage (at_application p h) = ap (λ (n : ℕ). leb 1 n && leb n 4) p

-- while messages are taken, the running hash is that of the messages fed
pub running_open : (s : Session) (b : Book) → s ≡ session_of b → Taking b.point (stage_of b) → s.transcript ≡ running_of
    (variant_of b.suite) (transcript b.messages)
unfolding session_of
running_open s b e t =
    ap (λ (x : Session). x.transcript) e
    ∙ ap (λ (x : Bool). cond x (running_of (variant_of b.suite) (transcript b.messages)) blank_running)
    (running_on b.point (stage_of b) t)

-- and it has counted them
pub count_is : (s : Session) (b : Book) → s ≡ session_of b → Good b → s.transcript.count ≡ fed_of b
unfolding session_of transcript
count_is s b e g = ap (λ (x : Session). x.transcript.count) e ∙ go (leb 1 b.point && leb b.point 4) refl
  where
    go : (t : Bool) → (leb 1 b.point && leb b.point 4) ≡ t
        → (cond t (running_of (variant_of b.suite) (transcript b.messages)) blank_running).count ≡ fed_of b
    go true h = counted b.suite (transcript b.messages)
    go false h = ap (λ (ms : List (List ℕ)). length (transcript ms)) (sym (g.idle h))

pub fed : (b : Book) (m : List ℕ) (s : Session) (h : Running) (stage : ℕ) → Good b → Taking b.point (stage_of b) → s ≡
    session_of b
    → h ≡ running_of (variant_of b.suite) (transcript b.messages ++ m) → stage ≡ stage_after s.stage (type_of m)
    → ◌≡◌ {A = Session} (record {
      suite = s.suite;
      kind = s.kind;
      early = s.early;
      point = s.point;
      stage = stage;
      client_updates = s.client_updates;
      server_updates = s.server_updates;
      transcript = h;
      chain = s.chain;
      binder_key = s.binder_key;
      client_early = s.client_early;
      early_exporter = s.early_exporter;
      client_handshake = s.client_handshake;
      server_handshake = s.server_handshake;
      client_application = s.client_application;
      server_application = s.server_application;
      exporter = s.exporter;
      resumption = s.resumption;
    })
    (session_of (note b (Feed m)))
unfolding session_of note early_secret_of handshake_secret_of master_secret_of client_application_secret server_application_secret until
fed b m s h stage g t e eh es =
    let keep : (x : Secret) → until x ≤ stage_of b → secret_of x (note b (Feed m)) ≡ secret_of x b = fed_secret b m in
    let early : early_held b.point b.ran ≡ true → 1 ≤ stage_of b = early-stage b g in
    let hand : handshake_held b.point ≡ true → 2 ≤ stage_of b = handshake-stage b.point (stage_of b) t in
    let app : application_held b.point ≡ true → 3 ≤ stage_of b = application-stage b.point (stage_of b) t in
    same-session
    (ap (λ (x : Session). x.suite) e)
    (ap (λ (x : Session). x.kind) e)
    (ap (λ (x : Session). x.early) e)
    (ap (λ (x : Session). x.point) e)
    (es ∙ ap (λ (k : ℕ). stage_after k (type_of m)) (stage_is s b e) ∙ sym (stage-snoc 0 b.messages m))
    (ap (λ (x : Session). x.client_updates) e)
    (ap (λ (x : Session). x.server_updates) e)
    (eh ∙ ap (running_of (variant_of b.suite)) (sym (transcript-snoc b.messages m))
    ∙ ap (λ (x : Bool). cond x (running_of (variant_of b.suite) (transcript (b.messages ++ (m ∷ [])))) blank_running)
    (sym (running_on b.point (stage_of b) t)))
    (ap (λ (x : Session). x.chain) e)
    (ap (λ (x : Session). x.binder_key) e ∙ kept (binder_held b.point b.kind) _ _
    (λ i. keep (binder_of b.kind) (binder_until (eqb b.kind 1) (stage_of b))))
    (ap (λ (x : Session). x.client_early) e ∙ kept (early_held b.point b.ran) _ _ (λ i. keep client_early (early i)))
    (ap (λ (x : Session). x.early_exporter) e ∙ kept (early_held b.point b.ran) _ _
    (λ i. keep early_exporter (early i)))
    (ap (λ (x : Session). x.client_handshake) e ∙ kept (handshake_held b.point) _ _ (λ i. keep client_handshake (hand i)))
    (ap (λ (x : Session). x.server_handshake) e ∙ kept (handshake_held b.point) _ _ (λ i. keep server_handshake (hand i)))
    (ap (λ (x : Session). x.client_application) e ∙ kept (application_held b.point) _ _
    (λ i. ap (updated b.suite b.client_updates) (keep client_application (app i))))
    (ap (λ (x : Session). x.server_application) e ∙ kept (application_held b.point) _ _
    (λ i. ap (updated b.suite b.server_updates) (keep server_application (app i))))
    (ap (λ (x : Session). x.exporter) e ∙ kept (application_held b.point) _ _ (λ i. keep exporter (app i)))
    (ap (λ (x : Session). x.resumption) e ∙ kept (resumption_held b.point) _ _
    (λ i. keep resumption (resumption-stage b.point (stage_of b) t i)))

-- the decision is the book's
pub feed_is : (s : Session) (m : List ℕ) {n : ℕ} → n ≡ feed_number s.point s.stage s.transcript.count m → (b : Book) →
    Reached b → s ≡ session_of b
    → n ≡ number b (Feed m)
unfolding number
feed_is s m en b r e =
    en ∙ ap (λ (k : ℕ). feed_number k s.stage s.transcript.count m) (point_is s b e)
    ∙ ap (λ (k : ℕ). feed_number b.point k s.transcript.count m) (stage_is s b e)
    ∙ ap (λ (k : ℕ). feed_number b.point (stage_of b) k m) (count_is s b e (good r))

pub feed_taken : (b : Book) (m : List ℕ) → number b (Feed m) ≡ 0 → FeedTaken b.point (stage_of b) (fed_of b) m
unfolding number
feed_taken b m z = feed_zero b.point (stage_of b) (fed_of b) m z

-- the running hash goes on
pub fed_running : (s : Session) (b : Book) (m : List ℕ) {h : Running} → s ≡ session_of b → FeedTaken b.point (stage_of b)
    (fed_of b) m
    → h ≡ absorbed (variant_of s.suite) s.transcript m → h ≡ running_of (variant_of b.suite)
    (transcript b.messages ++ m)
fed_running s b m e t eh =
    more b.suite (transcript b.messages) m (small t.small) (running_open s b e t.where_taken)
    (eh ∙ ap (λ (u : ℕ). absorbed (variant_of u) s.transcript m) (suite_is s b e))
  where
    small : fed_of b + length m ≤ 1048576 → fed_of b + length m < 2 ^ 61
    small h = omega arith
