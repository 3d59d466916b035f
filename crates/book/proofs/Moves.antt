-- How an accepted call moves the point, the PSK kind and whether Early ran; and Begin on a fresh session.
use Prim.Native.Nat.{ℕ}
use mathlib.Core.List.{List, []}
use mathlib.Core.Path.{◌≡◌, sym, subst}
use lib.ListN.{length}
use mathlib.Core.Bool.{true}
use Rattle.suite.specs.Suite.{known}
use Rattle.book.specs.Call.{Call}
use Rattle.book.specs.Call.Call.{Begin, Feed, Early, Handshake, Application, Complete, Update, Close, Keys, Finished, Check, Binder, Export}
use Rattle.book.specs.Book.{Book, fresh, blank_at, stage_of, note}
use Rattle.book.specs.Refusals.{begin_number, number}
use Rattle.book.proofs.Accepted.{begin_zero, early-zero, handshake-zero, application-zero, complete-zero, update_zero}

-- from a point, a kind and an Early that ran (1) or not (0), to those after it
pub data Moves : Call → (point kind ran after kind_after ran_after : ℕ) → Type 0 where
  begins : {suite kind k r : ℕ} {psk : List ℕ} → Moves (Begin suite kind psk) 0 k r 1 kind 0
  feeds : {p k r : ℕ} {m : List ℕ} → Moves (Feed m) p k r p k r
  runs : {k : ℕ} → Moves Early 1 k 0 1 k 1
  shakes : {g k r : ℕ} {s : List ℕ} → Moves (Handshake g s) 1 k r 2 k r
  applies : {k r : ℕ} → Moves Application 2 k r 3 k r
  completes : {k r : ℕ} → Moves Complete 3 k r 4 k r
  updates : {side k r : ℕ} → Moves (Update side) 4 k r 4 k r
  closes : {p k r : ℕ} → Moves Close p k r 5 0 0
  reads_keys : {n p k r : ℕ} {o : List ℕ} → Moves (Keys n o) p k r p k r
  reads_finished : {n p k r : ℕ} {o : List ℕ} → Moves (Finished n o) p k r p k r
  reads_check : {n p k r : ℕ} {o : List ℕ} → Moves (Check n o) p k r p k r
  reads_binder : {p k r : ℕ} {h o : List ℕ} → Moves (Binder h o) p k r p k r
  reads_export : {n a p k r : ℕ} {l c o : List ℕ} → Moves (Export n l c a o) p k r p k r

pub moves : (b : Book) (c : Call) → number b c ≡ 0 → Moves c b.point b.kind b.ran (note b c).point (note b c).kind
    (note b c).ran
unfolding number note
moves b (Begin suite kind psk) z =
    subst (λ (p : ℕ). Moves (Begin suite kind psk) p b.kind b.ran 1 kind 0)
    (sym (begin_zero b.point suite kind (length psk) z).at) begins
moves b (Feed message) z = feeds
moves b Early z =
    let t = early-zero b.point (stage_of b) b.ran b.kind z in
    subst (λ (p : ℕ). Moves Early p b.kind b.ran p b.kind 1) (sym t.at)
    (subst (λ (r : ℕ). Moves Early 1 b.kind r 1 b.kind 1) (sym t.once) runs)
moves b (Handshake group secret) z =
    subst (λ (p : ℕ). Moves (Handshake group secret) p b.kind b.ran 2 b.kind b.ran)
    (sym (handshake-zero b.point (stage_of b) b.kind group secret z).at) shakes
moves b Application z =
    subst (λ (p : ℕ). Moves Application p b.kind b.ran 3 b.kind b.ran)
    (sym (application-zero b.point (stage_of b) z).0) applies
moves b Complete z =
    subst (λ (p : ℕ). Moves Complete p b.kind b.ran 4 b.kind b.ran)
    (sym (complete-zero b.point (stage_of b) z).0) completes
moves b (Update side) z =
    subst (λ (p : ℕ). Moves (Update side) p b.kind b.ran p b.kind b.ran)
    (sym (update_zero b.point side b.client_updates b.server_updates z).at) updates
moves b Close z = closes
moves b (Keys name output) z = reads_keys
moves b (Finished side output) z = reads_finished
moves b (Check side received) z = reads_check
moves b (Binder hello output) z = reads_binder
moves b (Export name label context asked output) z = reads_export

-- a Begin that a fresh session accepts
pub begin_accepted : (suite : ℕ) → known suite ≡ true → number (blank_at fresh) (Begin suite 0 []) ≡ 0
unfolding number begin_number
begin_accepted suite h = rw h
