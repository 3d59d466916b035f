-- What each function's contract tells its caller is the `Done` that a step of a run takes, and no function asks for anything.
use Prim.Native.Nat.{ℕ}
use mathlib.Core.Path.{◌≡◌, refl}
use mathlib.Core.List.{List, []}
use seplogic.Ra.Ura.{Ura}
use base.Logic.{SProp, emp}
use prog.Memory.{Memory}
use prog.Routine.{Routine}
use types.Logic.{Logic}
use contract.Lifetimes.{Lfts}
use contract.Monad.{Fun, fact}
use denote.Ref.{Bor, MutBor}
use denote.Triple.Clauses.{AtExit}
use borrow.Fn.Kinds.{ended_of}
use Rattle.std.proofs.Common.{Result, Ok}
use Rattle.refusal.specs.declared.Refusal.{Refusal}
use Rattle.refusal.specs.Refusal.{Answer}
use Rattle.session.specs.declared.Session.{Session}
use Rattle.refusal.specs.Verdict.{Verdict}
use Rattle.outputs.specs.Verdict.{judged}
use Rattle.book.specs.Call.Call.{Begin, Feed, Early, Handshake, Application, Complete, Update, Close, Keys, Finished, Check, Binder, Export}
use Rattle.session.specs.Promise.{Done, after, plain, wrote}
use Rattle.history.specs.Histories.{fresh_session, Demand3}
use Rattle.history.proofs.Histories.{demand3}
use Rattle.session.proofs.fresh.Reads as fresh-reads
use Rattle.session.proofs.fresh.Kinds as fresh-kinds
use Rattle.opening_stage.proofs.begin.Reads as begin-reads
use Rattle.opening_stage.proofs.begin.Kinds as begin-kinds
use Rattle.feeding.proofs.feed.Reads as feed-reads
use Rattle.feeding.proofs.feed.Kinds as feed-kinds
use Rattle.early_stage.proofs.early.Reads as early-reads
use Rattle.early_stage.proofs.early.Kinds as early-kinds
use Rattle.handshake_stage.proofs.handshake.Reads as handshake-reads
use Rattle.handshake_stage.proofs.handshake.Kinds as handshake-kinds
use Rattle.application_stage.proofs.application.Reads as application-reads
use Rattle.application_stage.proofs.application.Kinds as application-kinds
use Rattle.complete_stage.proofs.complete.complete.Reads as complete-reads
use Rattle.complete_stage.proofs.complete.complete.Kinds as complete-kinds
use Rattle.complete_stage.proofs.update.update.Reads as update-reads
use Rattle.complete_stage.proofs.update.update.Kinds as update-kinds
use Rattle.session.proofs.close.close.Reads as close-reads
use Rattle.session.proofs.close.close.Kinds as close-kinds
use Rattle.outputs.proofs.keys.keys.Reads as keys-reads
use Rattle.outputs.proofs.keys.keys.Kinds as keys-kinds
use Rattle.finished.proofs.finished.finished.Reads as finished-reads
use Rattle.finished.proofs.finished.finished.Kinds as finished-kinds
use Rattle.finished.proofs.check.check.Reads as check-reads
use Rattle.finished.proofs.check.check.Kinds as check-kinds
use Rattle.finished.proofs.binder.binder.Reads as binder-reads
use Rattle.finished.proofs.binder.binder.Kinds as binder-kinds
use Rattle.outputs.proofs.export.export.Reads as export-reads
use Rattle.outputs.proofs.export.export.Kinds as export-kinds
use Rattle.modem.specs.contracts.feed as feed-in-place
use Rattle.modem.specs.contracts.update as update-in-place

fresh_promises : (r : Session) (x : AtExit (ended_of 0 fresh-kinds.ps fresh-kinds.r) tt) → fresh-reads.Learnt tt tt r x ≡
    (r ≡ fresh_session)
fresh_promises r x = refl

fresh_asks : fresh-reads.Asked tt tt ≡ Unit {0}
fresh_asks = refl

begin_promises : (κs : Lfts 1) (s : Session) (suite : ℕ) (kind : ℕ) (psk : Bor (List ℕ)) (r : Result Session Refusal)
    (x : AtExit (ended_of 1 begin-kinds.ps begin-kinds.r) κs) → begin-reads.Learnt κs (s, (suite, (kind, (psk, tt)))) r x ≡ Done
    s (Begin suite kind psk.now) (after s r) (plain r)
begin_promises κs s suite kind psk r x = refl

begin_asks : (κs : Lfts 1) (s : Session) (suite : ℕ) (kind : ℕ) (psk : Bor (List ℕ)) → begin-reads.Asked κs
    (s, (suite, (kind, (psk, tt)))) ≡ Unit {0}
begin_asks κs s suite kind psk = refl

feed_promises : (κs : Lfts 1) (s : Session) (message : Bor (List ℕ)) (r : Result Session Refusal)
    (x : AtExit (ended_of 1 feed-kinds.ps feed-kinds.r) κs) → feed-reads.Learnt κs (s, (message, tt)) r x ≡ Done s
    (Feed message.now) (after s r) (plain r)
feed_promises κs s message r x = refl

feed_asks : (κs : Lfts 1) (s : Session) (message : Bor (List ℕ)) → feed-reads.Asked κs (s, (message, tt)) ≡ Unit {0}
feed_asks κs s message = refl

early_promises : (s : Session) (r : Result Session Refusal)
    (x : AtExit (ended_of 0 early-kinds.ps early-kinds.r) tt) → early-reads.Learnt tt (s, tt) r x ≡ Done s Early (after s r) (plain r)
early_promises s r x = refl

early_asks : (s : Session) → early-reads.Asked tt (s, tt) ≡ Unit {0}
early_asks s = refl

handshake_promises : (κs : Lfts 1) (s : Session) (group : ℕ) (secret : Bor (List ℕ)) (r : Result Session Refusal)
    (x : AtExit (ended_of 1 handshake-kinds.ps handshake-kinds.r) κs) → handshake-reads.Learnt κs (s, (group, (secret, tt))) r x
    ≡ Done s (Handshake group secret.now) (after s r) (plain r)
handshake_promises κs s group secret r x = refl

handshake_asks : (κs : Lfts 1) (s : Session) (group : ℕ) (secret : Bor (List ℕ)) → handshake-reads.Asked κs
    (s, (group, (secret, tt))) ≡ Unit {0}
handshake_asks κs s group secret = refl

application_promises : (s : Session) (r : Result Session Refusal)
    (x : AtExit (ended_of 0 application-kinds.ps application-kinds.r) tt) → application-reads.Learnt tt (s, tt) r x ≡ Done s
    Application (after s r) (plain r)
application_promises s r x = refl

application_asks : (s : Session) → application-reads.Asked tt (s, tt) ≡ Unit {0}
application_asks s = refl

complete_promises : (s : Session) (r : Result Session Refusal)
    (x : AtExit (ended_of 0 complete-kinds.ps complete-kinds.r) tt) → complete-reads.Learnt tt (s, tt) r x ≡ Done s Complete
    (after s r) (plain r)
complete_promises s r x = refl

complete_asks : (s : Session) → complete-reads.Asked tt (s, tt) ≡ Unit {0}
complete_asks s = refl

update_promises : (s : Session) (side : ℕ) (r : Result Session Refusal)
    (x : AtExit (ended_of 0 update-kinds.ps update-kinds.r) tt) → update-reads.Learnt tt (s, (side, tt)) r x ≡ Done s
    (Update side) (after s r) (plain r)
update_promises s side r x = refl

update_asks : (s : Session) (side : ℕ) → update-reads.Asked tt (s, (side, tt)) ≡ Unit {0}
update_asks s side = refl

close_promises : (s : Session) (r : Session × ℕ)
    (x : AtExit (ended_of 0 close-kinds.ps close-kinds.r) tt) → close-reads.Learnt tt (s, tt) r x ≡ Done s Close r.0 (wrote (Ok r.1) [])
close_promises s r x = refl

close_asks : (s : Session) → close-reads.Asked tt (s, tt) ≡ Unit {0}
close_asks s = refl

keys_promises : (κs : Lfts 1) (s : Session) (name : ℕ) (out : MutBor (List ℕ)) (r : Answer)
    (x : AtExit (ended_of 1 keys-kinds.ps keys-kinds.r) κs) → keys-reads.Learnt κs (s, (name, (out, tt))) r x ≡ Done s
    (Keys name out.now) s (wrote r x.1.1.0.now)
keys_promises κs s name out r x = refl

keys_asks : (κs : Lfts 1) (s : Session) (name : ℕ) (out : MutBor (List ℕ)) → keys-reads.Asked κs (s, (name, (out, tt))) ≡ Unit {0}
keys_asks κs s name out = refl

finished_promises : (κs : Lfts 1) (s : Session) (side : ℕ) (out : MutBor (List ℕ)) (r : Answer)
    (x : AtExit (ended_of 1 finished-kinds.ps finished-kinds.r) κs) → finished-reads.Learnt κs (s, (side, (out, tt))) r x ≡ Done
    s (Finished side out.now) s (wrote r x.1.1.0.now)
finished_promises κs s side out r x = refl

finished_asks : (κs : Lfts 1) (s : Session) (side : ℕ) (out : MutBor (List ℕ)) → finished-reads.Asked κs (s, (side, (out, tt))) ≡
    Unit {0}
finished_asks κs s side out = refl

check_promises : (κs : Lfts 1) (s : Session) (side : ℕ) (received : Bor (List ℕ)) (r : Verdict)
    (x : AtExit (ended_of 1 check-kinds.ps check-kinds.r) κs) → check-reads.Learnt κs (s, (side, (received, tt))) r x ≡ Done s
    (Check side received.now) s (judged r)
check_promises κs s side received r x = refl

check_asks : (κs : Lfts 1) (s : Session) (side : ℕ) (received : Bor (List ℕ)) → check-reads.Asked κs
    (s, (side, (received, tt))) ≡ Unit {0}
check_asks κs s side received = refl

binder_promises : (κs : Lfts 2) (s : Session) (hello : Bor (List ℕ)) (out : MutBor (List ℕ)) (r : Answer)
    (x : AtExit (ended_of 2 binder-kinds.ps binder-kinds.r) κs) → binder-reads.Learnt κs (s, (hello, (out, tt))) r x ≡ Done s
    (Binder hello.now out.now) s (wrote r x.1.1.0.now)
binder_promises κs s hello out r x = refl

binder_asks : (κs : Lfts 2) (s : Session) (hello : Bor (List ℕ)) (out : MutBor (List ℕ)) → binder-reads.Asked κs
    (s, (hello, (out, tt))) ≡ Unit {0}
binder_asks κs s hello out = refl

export_promises : (κs : Lfts 3) (s : Session) (name : ℕ) (label : Bor (List ℕ)) (context : Bor (List ℕ)) (asked : ℕ)
    (out : MutBor (List ℕ)) (r : Answer)
    (x : AtExit (ended_of 3 export-kinds.ps export-kinds.r) κs) → export-reads.Learnt κs
    (s, (name, (label, (context, (asked, (out, tt)))))) r x ≡ Done s (Export name label.now context.now asked out.now)
    s (wrote r x.1.1.1.1.1.0.now)
export_promises κs s name label context asked out r x = refl

export_asks : (κs : Lfts 3) (s : Session) (name : ℕ) (label : Bor (List ℕ)) (context : Bor (List ℕ)) (asked : ℕ)
    (out : MutBor (List ℕ)) → export-reads.Asked κs (s, (name, (label, (context, (asked, (out, tt)))))) ≡ Unit {0}
export_asks κs s name label context asked out = refl

-- The two on the session where it lies: the same, of the clauses of their contracts in any model.
module _ {M : Type 1} {𝓤 : Ura M} (𝓛 : Logic 𝓤) (at_mem : Memory → SProp 𝓤) (run : Routine → Fun 𝓤) where
  feed_in_place_promises : (κs : Lfts 2) (s : MutBor Session) (message : Bor (List ℕ)) (r : Result Unit Refusal)
      (x : AtExit feed-in-place.ended κs)
      → (feed-in-place.clauses 𝓛 at_mem run κs (s, (message, tt))).ensures tt r x
      ≡ fact 𝓤 (Done s.now (Feed message.now) x.0.now (plain r))
  feed_in_place_promises κs s message r x = refl

  feed_in_place_asks : (κs : Lfts 2) (s : MutBor Session) (message : Bor (List ℕ))
      → (feed-in-place.clauses 𝓛 at_mem run κs (s, (message, tt))).requires tt ≡ emp 𝓤
  feed_in_place_asks κs s message = refl

  update_in_place_promises : (κs : Lfts 1) (s : MutBor Session) (side : ℕ) (r : Result Unit Refusal) (x : AtExit update-in-place.ended κs)
      → (update-in-place.clauses 𝓛 at_mem run κs (s, (side, tt))).ensures tt r x
      ≡ fact 𝓤 (Done s.now (Update side) x.0.now (plain r))
  update_in_place_promises κs s side r x = refl

  update_in_place_asks : (κs : Lfts 1) (s : MutBor Session) (side : ℕ)
      → (update-in-place.clauses 𝓛 at_mem run κs (s, (side, tt))).requires tt ≡ emp 𝓤
  update_in_place_asks κs s side = refl

-- Demand 3, of runs whose steps are these
pub every_list : Demand3
every_list = demand3
