-- The decisions of the calls are the book's.
use Prim.Native.Nat.{ℕ, ◌<◌}
use mathlib.Core.Bool.{Bool, cond}
use mathlib.Core.List.{List}
use mathlib.Core.Path.{◌≡◌, sym, ap, ◌∙◌, subst}
use lib.ListN.{length}
use borrow.Author.Tests.{eq-eqb, ne_eqb}
use Rattle.session.specs.declared.Session.{Session}
use Rattle.book.specs.Call.Call.{Begin, Early, Handshake, Application, Complete, Update}
use Rattle.book.specs.Book.{Book, stage_of}
use Rattle.book.specs.Refusals.{number, begin_number, early_number, handshake_number, application_number, complete_number, update_number, Reached}
use Rattle.session.specs.Session.{session_of}
use Rattle.book.proofs.Accepted.{BeginTaken, EarlyTaken, HandshakeTaken, UpdateTaken, begin_zero, early-zero, handshake-zero, application-zero, complete-zero, update_zero}

module _ (s : Session) {n : ℕ} where
  pub begin_is : (suite kind : ℕ) (psk : List ℕ) → n ≡ begin_number s.point suite kind (length psk) → (b : Book) → Reached b →
      s ≡ session_of b
      → n ≡ number b (Begin suite kind psk)
  unfolding number session_of
  begin_is suite kind psk en b r e = en ∙ ap (λ (x : Session). begin_number x.point suite kind (length psk)) e

  pub early_is : n ≡ early_number s.point s.stage s.early s.kind → (b : Book) → Reached b → s ≡ session_of b → n ≡
      number b Early
  unfolding number session_of
  early_is en b r e = en ∙ ap (λ (x : Session). early_number x.point x.stage x.early x.kind) e

  pub handshake_is : (group : ℕ) (secret : List ℕ) → n ≡ handshake_number s.point s.stage s.kind group secret →
      (b : Book) → Reached b → s ≡ session_of b
      → n ≡ number b (Handshake group secret)
  unfolding number session_of
  handshake_is group secret en b r e = en ∙ ap (λ (x : Session). handshake_number x.point x.stage x.kind group secret) e

  pub application_is : n ≡ application_number s.point s.stage → (b : Book) → Reached b → s ≡ session_of b → n ≡ number b
      Application
  unfolding number session_of
  application_is en b r e = en ∙ ap (λ (x : Session). application_number x.point x.stage) e

  pub complete_is : n ≡ complete_number s.point s.stage → (b : Book) → Reached b → s ≡ session_of b → n ≡ number b Complete
  unfolding number session_of
  complete_is en b r e = en ∙ ap (λ (x : Session). complete_number x.point x.stage) e

  pub update_is : (side : ℕ) → n ≡ update_number s.point side s.client_updates s.server_updates → (b : Book) →
      Reached b → s ≡ session_of b
      → n ≡ number b (Update side)
  unfolding number session_of
  update_is side en b r e = en ∙ ap (λ (x : Session). update_number x.point side x.client_updates x.server_updates)
      e

-- and what their acceptance says of the book
pub begin_taken : (b : Book) (suite kind : ℕ) (psk : List ℕ) → number b (Begin suite kind psk) ≡ 0 → BeginTaken b.point suite
    kind (length psk)
unfolding number
begin_taken b suite kind psk z = begin_zero b.point suite kind (length psk) z

pub early_taken : (b : Book) → number b Early ≡ 0 → EarlyTaken b.point (stage_of b) b.ran b.kind
unfolding number
early_taken b z = early-zero b.point (stage_of b) b.ran b.kind z

pub handshake_taken : (b : Book) (group : ℕ) (secret : List ℕ) → number b (Handshake group secret) ≡ 0
    → HandshakeTaken b.point (stage_of b) b.kind group secret
unfolding number
handshake_taken b group secret z = handshake-zero b.point (stage_of b) b.kind group secret z

pub application_taken : (b : Book) → number b Application ≡ 0 → (b.point ≡ 2) × (stage_of b ≡ 3)
unfolding number
application_taken b z = application-zero b.point (stage_of b) z

pub complete_taken : (b : Book) → number b Complete ≡ 0 → (b.point ≡ 3) × (stage_of b ≡ 4)
unfolding number
complete_taken b z = complete-zero b.point (stage_of b) z

pub update_taken : (b : Book) (side : ℕ) → number b (Update side) ≡ 0 → UpdateTaken b.point side b.client_updates
    b.server_updates
unfolding number
update_taken b side z = update_zero b.point side b.client_updates b.server_updates z

-- an update that is accepted is one that its side may still make
module _ (point side client server : ℕ) {n : ℕ} (en : n ≡ update_number point side client server) (z : n ≡ 0) where
  pub client_left : side ≡ 1 → client < 65535
  client_left is = subst (λ (t : Bool). cond t client server < 65535) (eq-eqb side 1 is)
      (update_zero point side client server (sym en ∙ z)).left

  pub server_left : (side ≡ 1 → ⊥) → server < 65535
  server_left is = subst (λ (t : Bool). cond t client server < 65535) (ne_eqb side 1 is)
      (update_zero point side client server (sym en ∙ z)).left
