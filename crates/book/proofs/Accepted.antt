-- What acceptance of each call that changes the session says, over plain numbers; and that each number is one of the table's.
use Prim.Native.Nat.{ℕ, ◌+◌, ◌≤◌, ◌<◌}
use mathlib.Core.Bool.{Bool, true, cond, not, ◌&&◌, ◌||◌}
use mathlib.Core.List.{List}
use mathlib.Core.Path.{◌≡◌, ap}
use native.Mathlib.Omega.{arith}
use lib.ListN.{length}
use lib.Dec.{eqb, ltb, leb}
use borrow.Author.Tests.{eq-eqb, ne_eqb, eqb-true, eqb-false, leb-true, ltb-true, not-false}
use Rattle.refusal.proofs.Laws.{passed, at_most, or-false, and-true, or-true, holds}
use Rattle.suite.specs.Suite.{known, hash_length}
use Rattle.suite.proofs.Laws.{bounded}
use Rattle.book.specs.Call.{Call}
use Rattle.book.specs.Groups.{known_group, group_bytes, all_zero}
use Rattle.book.specs.Messages.{whole_message, type_taken, type_of, max_transcript}
use Rattle.book.specs.Book.{Book, note}
use Rattle.book.specs.Refusals.{psk_size, taking, known_side, max_updates, begin_number, feed_number, early_number, handshake_number, application_number, complete_number, update_number, number, next}

-- the book after a call that is refused, and after one that is accepted
pub next-refused : (b : Book) (c : Call) → (number b c ≡ 0 → ⊥) → next b c ≡ b
next-refused b c h = ap (λ (t : Bool). cond t (note b c) b) (ne_eqb (number b c) 0 h)

pub next-accepted : (b : Book) (c : Call) → number b c ≡ 0 → next b c ≡ note b c
next-accepted b c h = ap (λ (t : Bool). cond t (note b c) b) (eq-eqb (number b c) 0 h)

-- Begin
pub record BeginTaken (point suite kind n : ℕ) : Type 0 where
  pub at : point ≡ 0
  pub known-suite : known suite ≡ true
  pub known-kind : kind ≤ 2
  pub size : psk_size suite kind n ≡ true
  pub small : n ≤ 128

psk_small : (suite kind n : ℕ) → psk_size suite kind n ≡ true → n ≤ 128
psk_small suite kind n =
    or-true (eqb kind 0 && eqb n 0) _ (λ e. let z : n ≡ 0 = eqb-true n 0 (and-true (eqb kind 0) (eqb n 0) e).1 in omega arith)
    (or-true (eqb kind 1 && (leb 1 n && leb n 128)) _
    (λ e. leb-true n 128 (and-true (leb 1 n) (leb n 128) (and-true (eqb kind 1) (leb 1 n && leb n 128) e).1).1)
    (λ e. let z : n ≡ hash_length suite = eqb-true n (hash_length suite) (and-true (eqb kind 2) (eqb n (hash_length suite)) e).1 in
    let h : hash_length suite ≤ 48 = (bounded suite).hash in omega arith))

module _ (point suite kind n : ℕ) where
  pub begin_small : begin_number point suite kind n ≤ 13
  unfolding begin_number
  begin_small =
      at_most (not (eqb point 0)) 13 1 _ (omega arith)
      (at_most (not (known suite) || not (leb kind 2)) 13 2 _ (omega arith)
      (at_most (not (psk_size suite kind n)) 13 4 0 (omega arith) (omega arith)))

  pub begin_zero : begin_number point suite kind n ≡ 0 → BeginTaken point suite kind n
  unfolding begin_number
  begin_zero e =
      let a = holds (eqb point 0) 1 (λ i. omega arith) e in
      let b = passed (not (known suite) || not (leb kind 2)) 2 _ (λ i. omega arith) a.1 in
      let k = or-false (not (known suite)) (not (leb kind 2)) b.0 in
      let c = holds (psk_size suite kind n) 4 (λ i. omega arith) b.1 in
      record {
        at = eqb-true point 0 a.0;
        known-suite = not-false (known suite) k.0;
        known-kind = leb-true kind 2 (not-false (leb kind 2) k.1);
        size = c.0;
        small = psk_small suite kind n c.0;
      }

-- Feed
pub data Taking (point stage : ℕ) : Type 0 where
  at_early : point ≡ 1 → stage < 2 → Taking point stage
  at_handshake : point ≡ 2 → stage ≡ 2 → Taking point stage
  at_application : point ≡ 3 → stage ≡ 3 → Taking point stage

pub record FeedTaken (point stage fed : ℕ) (m : List ℕ) : Type 0 where
  pub where_taken : Taking point stage
  pub whole : whole_message m ≡ true
  pub taken : type_taken stage (type_of m) ≡ true
  pub small : fed + length m ≤ 1048576

taking_cases : (point stage : ℕ) → taking point stage ≡ true → Taking point stage
taking_cases point stage =
    or-true (eqb point 1 && ltb stage 2) _
    (λ e. let h = and-true (eqb point 1) (ltb stage 2) e in at_early (eqb-true point 1 h.0) (ltb-true stage 2 h.1))
    (or-true (eqb point 2 && eqb stage 2) _
    (λ e. let h = and-true (eqb point 2) (eqb stage 2) e in at_handshake (eqb-true point 2 h.0) (eqb-true stage 2 h.1))
    (λ e. let h = and-true (eqb point 3) (eqb stage 3) e in at_application (eqb-true point 3 h.0) (eqb-true stage 3 h.1)))

module _ (point stage fed : ℕ) (m : List ℕ) where
  pub feed_small : feed_number point stage fed m ≤ 13
  unfolding feed_number
  feed_small =
      at_most (not (taking point stage)) 13 1 _ (omega arith)
      (at_most (not (whole_message m)) 13 7 _ (omega arith)
      (at_most (not (type_taken stage (type_of m))) 13 8 _ (omega arith)
      (at_most (not (leb (fed + length m) max_transcript)) 13 9 0 (omega arith) (omega arith))))

  pub feed_zero : feed_number point stage fed m ≡ 0 → FeedTaken point stage fed m
  unfolding feed_number
  feed_zero e =
      let a = holds (taking point stage) 1 (λ i. omega arith) e in
      let b = holds (whole_message m) 7 (λ i. omega arith) a.1 in
      let c = holds (type_taken stage (type_of m)) 8 (λ i. omega arith) b.1 in
      let d = holds (leb (fed + length m) max_transcript) 9 (λ i. omega arith) c.1 in
      record {
        where_taken = taking_cases point stage a.0;
        whole = b.0;
        taken = c.0;
        small = leb-true _ max_transcript
            d.0;
      }

-- Early
pub record EarlyTaken (point stage ran kind : ℕ) : Type 0 where
  pub at : point ≡ 1
  pub come : stage ≡ 1
  pub once : ran ≡ 0
  pub some : kind ≡ 0 → ⊥

module _ (point stage ran kind : ℕ) where
  pub early_small : early_number point stage ran kind ≤ 13
  unfolding early_number
  early_small =
      at_most (not (eqb point 1 && (eqb stage 1 && eqb ran 0))) 13 1 _ (omega arith)
      (at_most (eqb kind 0) 13 3 0 (omega arith) (omega arith))

  pub early-zero : early_number point stage ran kind ≡ 0 → EarlyTaken point stage ran kind
  unfolding early_number
  early-zero e =
      let a = holds (eqb point 1 && (eqb stage 1 && eqb ran 0)) 1 (λ i. omega arith) e in
      let h = and-true (eqb point 1) (eqb stage 1 && eqb ran 0) a.0 in
      let k = and-true (eqb stage 1) (eqb ran 0) h.1 in
      let b = passed (eqb kind 0) 3 0 (λ i. omega arith) a.1 in
      record {
        at = eqb-true point 1 h.0;
        come = eqb-true stage 1 k.0;
        once = eqb-true ran 0 k.1;
        some = eqb-false kind
            0 b.0;
      }

-- Handshake
pub record HandshakeTaken (point stage kind group : ℕ) (secret : List ℕ) : Type 0 where
  pub at : point ≡ 1
  pub come : stage ≡ 2
  pub known-group : known_group group ≡ true
  pub size : length secret ≡ group_bytes group
  pub small : length secret ≤ 1024

pub group_small : (group : ℕ) → group_bytes group ≤ 1024
unfolding group_bytes
group_small g =
    at_most (eqb g 0) 1024 0 _ (omega arith)
    (at_most (eqb g 0x17) 1024 32 _ (omega arith)
    (at_most (eqb g 0x18) 1024 48 _ (omega arith)
    (at_most (eqb g 0x19) 1024 66 _ (omega arith)
    (at_most (eqb g 0x1d) 1024 32 _ (omega arith)
    (at_most (eqb g 0x1e) 1024 56 _ (omega arith)
    (at_most (eqb g 0x100) 1024 256 _ (omega arith)
    (at_most (eqb g 0x101) 1024 384 _ (omega arith)
    (at_most (eqb g 0x102) 1024 512 _ (omega arith)
    (at_most (eqb g 0x103) 1024 768 _ (omega arith)
    (at_most (eqb g 0x104) 1024 1024 0 (omega arith) (omega arith)))))))))))

module _ (point stage kind group : ℕ) (secret : List ℕ) where
  pub handshake_small : handshake_number point stage kind group secret ≤ 13
  unfolding handshake_number
  handshake_small =
      at_most (not (eqb point 1 && eqb stage 2)) 13 1 _ (omega arith)
      (at_most (not (known_group group)) 13 2 _ (omega arith)
      (at_most (not (eqb (length secret) (group_bytes group))) 13 4 _ (omega arith)
      (at_most ((eqb group 0x1d || eqb group 0x1e) && all_zero secret) 13 5 _ (omega arith)
      (at_most (eqb group 0 && eqb kind 0) 13 6 0 (omega arith) (omega arith)))))

  pub handshake-zero : handshake_number point stage kind group secret ≡ 0 → HandshakeTaken point stage kind group secret
  unfolding handshake_number
  handshake-zero e =
      let a = holds (eqb point 1 && eqb stage 2) 1 (λ i. omega arith) e in
      let h = and-true (eqb point 1) (eqb stage 2) a.0 in
      let b = holds (known_group group) 2 (λ i. omega arith) a.1 in
      let c = holds (eqb (length secret) (group_bytes group)) 4 (λ i. omega arith) b.1 in
      let n : length secret ≡ group_bytes group = eqb-true (length secret) (group_bytes group) c.0 in
      let k : group_bytes group ≤ 1024 = group_small group in
      record { at = eqb-true point 1 h.0; come = eqb-true stage 2 h.1; known-group = b.0; size = n; small = omega arith }

-- Application, Complete
pub application_small : (point stage : ℕ) → application_number point stage ≤ 13
unfolding application_number
application_small point stage = at_most (not (eqb point 2 && eqb stage 3)) 13 1 0 (omega arith) (omega arith)

pub application-zero : (point stage : ℕ) → application_number point stage ≡ 0 → (point ≡ 2) × (stage ≡ 3)
unfolding application_number
application-zero point stage e =
    let h = and-true (eqb point 2) (eqb stage 3) (holds (eqb point 2 && eqb stage 3) 1 (λ i. omega arith) e).0 in
    (eqb-true point 2 h.0, eqb-true stage 3 h.1)

pub complete_small : (point stage : ℕ) → complete_number point stage ≤ 13
unfolding complete_number
complete_small point stage = at_most (not (eqb point 3 && eqb stage 4)) 13 1 0 (omega arith) (omega arith)

pub complete-zero : (point stage : ℕ) → complete_number point stage ≡ 0 → (point ≡ 3) × (stage ≡ 4)
unfolding complete_number
complete-zero point stage e =
    let h = and-true (eqb point 3) (eqb stage 4) (holds (eqb point 3 && eqb stage 4) 1 (λ i. omega arith) e).0 in
    (eqb-true point 3 h.0, eqb-true stage 4 h.1)

-- a known side is one of two
pub data Side (side : ℕ) : Type 0 where
  client : side ≡ 1 → Side side
  server : side ≡ 2 → Side side

pub side_cases : (side : ℕ) → known_side side ≡ true → Side side
side_cases side = or-true (eqb side 1) (eqb side 2) (λ e. client (eqb-true side 1 e)) (λ e. server (eqb-true side 2 e))

-- Update
pub record UpdateTaken (point side client_updates server_updates : ℕ) : Type 0 where
  pub at : point ≡ 4
  pub known_side_lem : Side side
  pub left : cond (eqb side 1) client_updates server_updates < 65535

module _ (point side client_updates server_updates : ℕ) where
  pub update_small : update_number point side client_updates server_updates ≤ 13
  unfolding update_number
  update_small =
      at_most (not (eqb point 4)) 13 1 _ (omega arith)
      (at_most (not (known_side side)) 13 2 _ (omega arith)
      (at_most (not (ltb (cond (eqb side 1) client_updates server_updates) max_updates)) 13 12 0 (omega arith) (omega arith)))

  pub update_zero : update_number point side client_updates server_updates ≡ 0 → UpdateTaken point side client_updates server_updates
  unfolding update_number
  update_zero e =
      let a = holds (eqb point 4) 1 (λ i. omega arith) e in
      let b = holds (known_side side) 2 (λ i. omega arith) a.1 in
      let c = holds (ltb (cond (eqb side 1) client_updates server_updates) max_updates) 12 (λ i. omega arith) b.1 in
      record { at = eqb-true point 4 a.0; known_side_lem = side_cases side b.0; left = ltb-true _ max_updates c.0 }
