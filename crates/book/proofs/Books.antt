-- What holds of every book that calls lead to.
use Prim.Native.Nat.{ℕ, ◌+◌, ◌≤◌, ◌<◌, zero-le}
use mathlib.Core.Bool.{Bool, true, false, cond, ◌&&◌}
use mathlib.Core.List.{List, [], ◌∷◌, ◌++◌}
use mathlib.Core.Path.{◌≡◌, refl, sym, ap, ◌∙◌}
use native.Mathlib.Nat.{le_trans}
use native.Mathlib.Omega.{arith}
use lib.Dec.{eqb, leb}
use lib.ListN.{length, length-append}
use borrow.Author.Tests.{eqb-true, eqb-false}
use Rattle.refusal.proofs.Laws.{true-false, or-true}
use Rattle.suite.specs.Suite.{known}
use Rattle.book.specs.Call.{Call}
use Rattle.book.specs.Call.Call.{Begin, Feed, Early, Handshake, Application, Complete, Update, Close, Keys, Finished, Check, Binder, Export}
use Rattle.book.specs.Messages.{type_of, type_taken, stage_after, stage_from, up_to, transcript}
use Rattle.book.specs.Book.{Book, blank_at, stage_of, fed_of, note}
use Rattle.book.specs.Refusals.{number, Reached}
use Rattle.book.specs.Refusals.Reached.{start, more}
use Rattle.book.proofs.Accepted.{Taking, FeedTaken, begin_zero, feed_zero, early-zero, handshake-zero, application-zero, complete-zero, update_zero}
use Rattle.book.proofs.Accepted.Taking.{at_early, at_handshake, at_application}
use Rattle.book.proofs.Transcripts.{stage-snoc, transcript-snoc, stage_grows, up_to_all, up_to-more}

-- points and stages that differ
apart : {A : Type 0} {n : ℕ} (i j : ℕ) → eqb i j ≡ false → n ≡ i → n ≡ j → A
apart i j d p q = absurd (eqb-false i j d (sym p ∙ q))

pub record Good (b : Book) : Type 0 where
  pub fed : fed_of b ≤ 1048576
  pub idle : (leb 1 b.point && leb b.point 4) ≡ false → b.messages ≡ []
  pub suited : 1 ≤ b.point → b.point ≤ 4 → known b.suite ≡ true
  pub first : (b.ran ≡ 0 → ⊥) → 1 ≤ stage_of b
  -- all messages so far are those up to the stage that is being made
  pub hello : b.point ≡ 1 → stage_of b ≡ 1 → up_to 1 0 b.messages ≡ b.messages
  pub hellos : b.point ≡ 1 → up_to 2 0 b.messages ≡ b.messages
  pub server : b.point ≡ 2 → (up_to 3 0 b.messages ≡ b.messages) × (2 ≤ stage_of b)
  pub client : b.point ≡ 3 → (up_to 4 0 b.messages ≡ b.messages) × (3 ≤ stage_of b)
  pub unmoved : (b.point ≡ 4 → ⊥) → (b.client_updates ≡ 0) × (b.server_updates ≡ 0)

blank_good : (p : ℕ) → (p ≡ 0 → ⊥) → (p ≤ 4 → ⊥) → Good (blank_at p)
unfolding transcript
blank_good p some past =
    record {
      fed = zero-le;
      idle = λ h. refl;
      suited = λ a z. absurd (past z);
      first = λ h. absurd (h refl);
      hello = λ e. absurd (past (omega arith));
      hellos = λ e. absurd (past (omega arith));
      server = λ e. absurd (past (omega arith));
      client = λ e. absurd (past (omega arith));
      unmoved = λ h. (refl, refl);
    }

fresh-good : Good (blank_at 0)
unfolding transcript
fresh-good =
    record {
      fed = zero-le;
      idle = λ h. refl;
      suited = λ a z. absurd (no_one a);
      first = λ h. absurd (h refl);
      hello = λ e. apart 0 1 refl refl e;
      hellos = λ e. apart 0 1 refl refl e;
      server = λ e. apart 0 2 refl refl e;
      client = λ e. apart 0 3 refl refl e;
      unmoved = λ h. (refl, refl);
    }
  where
    no_one : 1 ≤ 0 → ⊥
    no_one h = omega arith

-- one message more
fed_stage : (b : Book) (m : List ℕ) (n : ℕ) → n ≤ stage_of b → n ≤ stage_from 0 (b.messages ++ (m ∷ []))
fed_stage b m n h = rw (stage-snoc 0 b.messages m) (le_trans h (stage_grows (stage_of b) (type_of m)))

fed_small : (b : Book) (m : List ℕ) → fed_of b + length m ≤ 1048576 → length (transcript (b.messages ++ (m ∷ []))) ≤ 1048576
fed_small b m h = rw (transcript-snoc b.messages m, length-append (transcript b.messages) m) h

-- after the ClientHello only the ServerHello is taken
second : (k t : ℕ) → k ≡ 1 → type_taken k t ≡ true → stage_after k t ≡ 2
second k t e h = rw e (ap (λ (x : Bool). cond x 2 1) (or-true (eqb t 2) false (λ p. p) (λ p. absurd (true-false (sym p)))
    (sym (ap (λ (n : ℕ). type_taken n t) e) ∙ h)))

first_hello : (k after t : ℕ) → k < 2 → type_taken k t ≡ true → after ≡ stage_after k t → after ≡ 1 → k < 1
first_hello k after t small taken is one = go (eqb k 1) refl
  where
    below : (k ≡ 1 → ⊥) → k < 2 → k < 1
    below p q = omega arith

    go : (x : Bool) → eqb k 1 ≡ x → k < 1
    go true h = apart 1 2 refl one (is ∙ second k t (eqb-true k 1 h) taken)
    go false h = below (eqb-false k 1 h) small

fed_hello : (b : Book) (m : List ℕ) → b.point ≡ 1 → FeedTaken b.point (stage_of b) (fed_of b) m → stage_from 0
    (b.messages ++ (m ∷ [])) ≡ 1
    → up_to 1 0 (b.messages ++ (m ∷ [])) ≡ b.messages ++ (m ∷ [])
fed_hello b m e t one = up_to-more 1 0 b.messages m (first_hello (stage_of b) _ (type_of m) (below t.where_taken) t.taken
    (stage-snoc 0 b.messages m) one)
  where
    below : Taking b.point (stage_of b) → stage_of b < 2
    below (at_early p h) = h
    below (at_handshake p h) = apart 1 2 refl e p
    below (at_application p h) = apart 1 3 refl e p

fed_hellos : (b : Book) (m : List ℕ) → b.point ≡ 1 → Taking b.point (stage_of b) → up_to 2 0 (b.messages ++ (m ∷ [])) ≡
    b.messages ++ (m ∷ [])
fed_hellos b m e (at_early p h) = up_to-more 2 0 b.messages m h
fed_hellos b m e (at_handshake p h) = apart 1 2 refl e p
fed_hellos b m e (at_application p h) = apart 1 3 refl e p

fed_server : (b : Book) (m : List ℕ) → b.point ≡ 2 → Taking b.point (stage_of b)
    → (up_to 3 0 (b.messages ++ (m ∷ [])) ≡ b.messages ++ (m ∷ [])) × (2 ≤ stage_from 0 (b.messages ++ (m ∷ [])))
fed_server b m e (at_early p h) = apart 2 1 refl e p
fed_server b m e (at_handshake p h) = (up_to-more 3 0 b.messages m (omega arith), fed_stage b m 2 (omega arith))
fed_server b m e (at_application p h) = apart 2 3 refl e p

fed_client : (b : Book) (m : List ℕ) → b.point ≡ 3 → Taking b.point (stage_of b)
    → (up_to 4 0 (b.messages ++ (m ∷ [])) ≡ b.messages ++ (m ∷ [])) × (3 ≤ stage_from 0 (b.messages ++ (m ∷ [])))
fed_client b m e (at_early p h) = apart 3 1 refl e p
fed_client b m e (at_handshake p h) = apart 3 2 refl e p
fed_client b m e (at_application p h) = (up_to-more 4 0 b.messages m (omega arith), fed_stage b m 3 (omega arith))

busy : {point stage : ℕ} → Taking point stage → (leb 1 point && leb point 4) ≡ false → ⊥
busy (at_early p h) e = true-false (sym (ap (λ (n : ℕ). leb 1 n && leb n 4) p) ∙ e)
busy (at_handshake p h) e = true-false (sym (ap (λ (n : ℕ). leb 1 n && leb n 4) p) ∙ e)
busy (at_application p h) e = true-false (sym (ap (λ (n : ℕ). leb 1 n && leb n 4) p) ∙ e)

fed_good : (b : Book) (m : List ℕ) → Good b → FeedTaken b.point (stage_of b) (fed_of b) m → Good (note b (Feed m))
unfolding note
fed_good b m g t =
    record {
      fed = fed_small b m t.small;
      idle = λ h. absurd (busy t.where_taken h);
      suited = g.suited;
      first = λ h. fed_stage b m 1 (g.first h);
      hello = λ e. fed_hello b m e t;
      hellos = λ e. fed_hellos b m e t.where_taken;
      server = λ e. fed_server b m e t.where_taken;
      client = λ e. fed_client b m e t.where_taken;
      unmoved = g.unmoved;
    }

begun_good : (b : Book) (suite kind : ℕ) (psk : List ℕ) → known suite ≡ true → Good (note b (Begin suite kind psk))
unfolding note transcript up_to stage_from
begun_good b suite kind psk k =
    record {
      fed = zero-le;
      idle = λ h. absurd (true-false h);
      suited = λ a z. k;
      first = λ h. absurd (h refl);
      hello = λ e z. refl;
      hellos = λ e. refl;
      server = λ e. apart 1 2 refl refl e;
      client = λ e. apart 1 3 refl refl e;
      unmoved = λ h. (refl, refl);
    }

noted : (b : Book) → Good b → (c : Call) → number b c ≡ 0 → Good (note b c)
unfolding number note
noted b g (Begin suite kind psk) z = begun_good b suite kind psk (begin_zero b.point suite kind (length psk) z).known-suite
noted b g (Feed m) z = fed_good b m g (feed_zero b.point (stage_of b) (fed_of b) m z)
noted b g Early z =
    let t = early-zero b.point (stage_of b) b.ran b.kind z in
    record {
      fed = g.fed;
      idle = g.idle;
      suited = g.suited;
      first = λ h. omega (arith, t.come);
      hello = g.hello;
      hellos =
          g.hellos;
      server = g.server;
      client = g.client;
      unmoved = g.unmoved;
    }
noted b g (Handshake group secret) z =
    let t = handshake-zero b.point (stage_of b) b.kind group secret z in
    record {
      fed = g.fed;
      idle = λ h. absurd (true-false h);
      suited = λ x y. g.suited (omega (arith, t.at)) (omega (arith, t.at));
      first = g.first;
      hello = λ e. apart 2 1 refl refl e;
      hellos = λ e. apart 2 1 refl refl e;
      server = λ e. (up_to_all 3 0 b.messages (omega (arith, t.come)), omega (arith, t.come));
      client = λ e. apart 2 3 refl refl e;
      unmoved = λ h. g.unmoved (λ p. apart 1 4 refl t.at p);
    }
noted b g Application z =
    let t = application-zero b.point (stage_of b) z in
    record {
      fed = g.fed;
      idle = λ h. absurd (true-false h);
      suited = λ x y. g.suited (omega (arith, t.0)) (omega (arith, t.0));
      first = g.first;
      hello = λ e. apart 3 1 refl refl e;
      hellos = λ e. apart 3 1 refl refl e;
      server = λ e. apart 3 2 refl refl e;
      client = λ e. (up_to_all 4 0 b.messages (omega (arith, t.1)), omega (arith, t.1));
      unmoved = λ h. g.unmoved (λ p. apart 2 4 refl t.0 p);
    }
noted b g Complete z =
    let t = complete-zero b.point (stage_of b) z in
    record {
      fed = g.fed;
      idle = λ h. absurd (true-false h);
      suited = λ x y. g.suited (omega (arith, t.0)) (omega (arith, t.0));
      first = g.first;
      hello = λ e. apart 4 1 refl refl e;
      hellos = λ e. apart 4 1 refl refl e;
      server = λ e. apart 4 2 refl refl e;
      client = λ e. apart 4 3 refl refl e;
      unmoved = λ h. absurd (h refl);
    }
noted b g (Update side) z =
    let t = update_zero b.point side b.client_updates b.server_updates z in
    record {
      fed = g.fed;
      idle = g.idle;
      suited = g.suited;
      first = g.first;
      hello = g.hello;
      hellos = g.hellos;
      server =
          g.server;
      client = g.client;
      unmoved = λ h. absurd (h t.at);
    }
noted b g Close z = blank_good 5 (eqb-false 5 0 refl) (λ h. past_four h)
  where
    past_four : 5 ≤ 4 → ⊥
    past_four h = omega arith
noted b g (Keys name output) z = g
noted b g (Finished side output) z = g
noted b g (Check side received) z = g
noted b g (Binder hello output) z = g
noted b g (Export name label context asked output) z = g

pub good : {b : Book} → Reached b → Good b
good start = fresh-good
good (more {b = b} r c) = go (good r) (eqb (number b c) 0) refl
  where
    go : Good b → (t : Bool) → eqb (number b c) 0 ≡ t → Good (cond t (note b c) b)
    go g true e = noted b g c (eqb-true (number b c) 0 e)
    go g false e = g
