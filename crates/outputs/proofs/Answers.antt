-- What each call did, from what its code did.
use Prim.Native.Nat.{ℕ, ◌+◌, ◌≤◌, zero-le}
use mathlib.Core.Bool.{Bool, false}
use mathlib.Core.List.{List, []}
use mathlib.Core.Path.{◌≡◌, refl, sym, ap, ◌∙◌, subst}
use lib.ListN.{length, take}
use Rattle.buffer.specs.Buffer.{fronted, placed, after, behind, same}
use Rattle.buffer.proofs.Laws.{take-placed}
use Rattle.std.proofs.Common.{Ok, Err}
use Rattle.refusal.specs.declared.Refusal.{Refusal}
use Rattle.refusal.specs.Refusal.{number_of, Answer}
use Rattle.refusal.specs.Refusal as Refusal
use Rattle.refusal.proofs.Laws.{number_of-some}
use Rattle.suite.specs.Suite.{hash_length, key_length, iv_length}
use Rattle.suite_hash.specs.Hash.{hash, max_input}
use Rattle.schedule.specs.Schedule.{within, traffic_keys, verify_data}
use Rattle.schedule.proofs.Laws.{length-traffic_keys, length-verify_data}
use Rattle.session.specs.declared.Session.{Session}
use Rattle.book.specs.Call.{Call, lent}
use Rattle.book.specs.Call.Call.{Keys, Finished, Check, Binder}
use Rattle.book.specs.Book.{Book, note}
use Rattle.book.specs.Refusals.{number, Reached, keys_number, finished_number, check_number, binder_number}
use Rattle.session.specs.Values.{written, verdict}
use Rattle.session.specs.Session.{session_of}
use Rattle.session.specs.Promise.{Done, wrote}
use Rattle.book.proofs.AcceptedReads.{keys-zero, finished-zero, binder_zero}
use Rattle.session.proofs.Calls.{refused, accepted}
use Rattle.refusal.specs.Verdict.{Verdict}
use Rattle.outputs.specs.Verdict.{judged}
use Rattle.outputs.specs.Places.{named_place, finished_from}
use Rattle.outputs.proofs.Deciding.{keys_is, finished_is, check_is, binder_is}
use Rattle.outputs.proofs.Writing.{value_written}
use Rattle.outputs.proofs.Places.{keys-value, finished-value, check_value, binder_value_lem}

-- a call that e refuses
pub refused-with : (s : Session) (c : Call) (e : Refusal) {a : Answer} → ((b : Book) → Reached b → s ≡ session_of b → number_of e ≡ number b c)
    → a ≡ Err e → Done s c s (wrote a (lent c))
refused-with s c e is ea =
    subst (λ (r : Answer). Done s c s (wrote r (lent c))) (sym ea) (refused s c (number_of e) 0 is (number_of-some e) refl)

-- an accepted call that reads the session and writes K
given : (s : Session) (c : Call) (K : List ℕ) {a : Answer} {count : ℕ} {output : List ℕ} → ((b : Book) → note b c ≡ b) →
    ((b : Book) → verdict b c ≡ false)
    → ((b : Book) → Reached b → s ≡ session_of b → number b c ≡ 0)
    → ((b : Book) → Reached b → s ≡ session_of b → number b c ≡ 0 → K ≡ written b c) → length K ≤ length (lent c)
    → (count ≡ length K) × (output ≡ fronted K (lent c)) → a ≡ Ok count
    → Done s c s (wrote a output)
given s c K {a} {count} {output} stays silent is values fits w ea =
    let k : Refusal.count a ≡ length K = ap Refusal.count ea ∙ w.0 in
    accepted s c s K (Refusal.number a) (Refusal.count a) false output is (λ b r e z. e ∙ ap session_of (sym (stays b)))
    (λ b r e z. (values b r e z, sym (silent b))) (ap Refusal.number ea) k w.1
    (subst (λ (j : ℕ). j ≤ length (lent c)) (sym k) fits)

-- Keys
module _ (s : Session) (name : ℕ) (out : List ℕ) where
  pub keys-refused : (e : Refusal) {a : Answer} → number_of e ≡ keys_number s.point s.suite s.early name (length out)
      → a ≡ Err e → Done s (Keys name out) s (wrote a out)
  unfolding lent
  keys-refused e en ea = refused-with s (Keys name out) e (keys_is s name out en) ea

  pub keys_fit : 0 ≡ keys_number s.point s.suite s.early name (length out) → key_length s.suite + iv_length s.suite ≤ length out
  keys_fit en = (keys-zero s.point s.suite s.early name (length out) (sym en)).fits

  pub keys-done : {a : Answer} {count : ℕ} {secret output : List ℕ}
      → 0 ≡ keys_number s.point s.suite s.early name (length out) → secret ≡ named_place s name
      → (count ≡ length (traffic_keys s.suite (take (hash_length s.suite) secret))) ×
      (output ≡ fronted (traffic_keys s.suite (take (hash_length s.suite) secret)) out)
      → a ≡ Ok count → Done s (Keys name out) s (wrote a output)
  unfolding lent note verdict
  keys-done {secret = secret} en es w ea =
      let K = traffic_keys s.suite (take (hash_length s.suite) secret) in
      given s (Keys name out) K (λ b. refl) (λ b. refl) (λ b r e. sym (keys_is s name out en b r e))
      (λ b r e y. keys-value s b name out e y es)
      (subst (λ (k : ℕ). k ≤ length out) (sym (length-traffic_keys s.suite (take (hash_length s.suite) secret))) (keys_fit en))
      w ea

-- Finished
length-finished_from : (s : Session) (side : ℕ) → length (finished_from s side) ≡ hash_length s.suite
unfolding finished_from
length-finished_from s side = length-verify_data s.suite _ _

module _ (s : Session) (side : ℕ) (out : List ℕ) where
  pub finished-refused : (e : Refusal) {a : Answer} → number_of e ≡ finished_number s.point s.stage s.suite side (length out)
      → a ≡ Err e → Done s (Finished side out) s (wrote a out)
  unfolding lent
  finished-refused e en ea = refused-with s (Finished side out) e (finished_is s side out en) ea

  pub finished-done : {a : Answer} {count : ℕ} {value output : List ℕ}
      → 0 ≡ finished_number s.point s.stage s.suite side (length out) → value ≡ placed (finished_from s side)
      → (count ≡ behind 0 (take (hash_length s.suite) value) out) × (output ≡ after 0 (take (hash_length s.suite) value) out)
      → a ≡ Ok count → Done s (Finished side out) s (wrote a output)
  unfolding lent note verdict
  finished-done en ev w ea =
      let K = finished_from s side in
      let l = length-finished_from s side in
      let f = (finished-zero s.point s.stage s.suite side (length out) (sym en)).1 in
      given s (Finished side out) K (λ b. refl) (λ b. refl) (λ b r e. sym (finished_is s side out en b r e))
      (λ b r e y. finished-value s b side out r e y)
      (subst (λ (k : ℕ). k ≤ length out) (sym l) f) (value_written K out ev l f w) ea

-- Check
module _ (s : Session) (side : ℕ) (received : List ℕ) where
  pub check_refused : (e : Refusal) {r : Verdict} → number_of e ≡ check_number s.point s.stage side → r ≡ Err e
      → Done s (Check side received) s (judged r)
  unfolding lent
  check_refused e en er =
      subst (λ (v : Verdict). Done s (Check side received) s (judged v)) (sym er)
      (refused s (Check side received) (number_of e) 0 (check_is s side received en) (number_of-some e) refl)

  pub checked : {h : ℕ} {value : List ℕ} {r : Bool} → 0 ≡ check_number s.point s.stage side → h ≡ hash_length s.suite
      → value ≡ placed (finished_from s side) → r ≡ same received (take h value)
      → Done s (Check side received) s (judged (Ok r))
  unfolding lent note written fronted
  checked {h} {value} {r} en eh ev er =
      let t : take h value ≡ finished_from s side = ap (take h) ev ∙ take-placed h (finished_from s side)
      (length-finished_from s side ∙ sym eh) in
      let y : r ≡ same received (finished_from s side) = er ∙ ap (same received) t in
      accepted s (Check side received) s [] 0 0 r [] (λ b k e. sym (check_is s side received en b k e)) (λ b k e q. e)
      (λ b k e q. (refl, y ∙ check_value s b side received k e q)) refl refl refl zero-le

-- Binder
module _ (s : Session) (hello out : List ℕ) where
  pub binder_refused : (e : Refusal) {a : Answer} → number_of e ≡ binder_number s.point s.suite s.kind hello (length out)
      → a ≡ Err e → Done s (Binder hello out) s (wrote a out)
  unfolding lent
  binder_refused e en ea = refused-with s (Binder hello out) e (binder_is s hello out en) ea

  pub binder_done : {a : Answer} {count : ℕ} {digest value output : List ℕ}
      → 0 ≡ binder_number s.point s.suite s.kind hello (length out) → digest ≡ placed (hash s.suite (within max_input hello))
      → value ≡ placed (verify_data s.suite (take (hash_length s.suite) s.binder_key) (take (hash_length s.suite) digest))
      → (count ≡ behind 0 (take (hash_length s.suite) value) out) × (output ≡ after 0 (take (hash_length s.suite) value) out)
      → a ≡ Ok count → Done s (Binder hello out) s (wrote a output)
  unfolding lent note verdict
  binder_done {digest = digest} en ed ev w ea =
      let K = verify_data s.suite (take (hash_length s.suite) s.binder_key) (take (hash_length s.suite) digest) in
      let l = length-verify_data s.suite (take (hash_length s.suite) s.binder_key) (take (hash_length s.suite) digest) in
      let f = (binder_zero s.point s.suite s.kind hello (length out) (sym en)).fits in
      given s (Binder hello out) K (λ b. refl) (λ b. refl) (λ b r e. sym (binder_is s hello out en b r e))
      (λ b r e y. binder_value_lem s b hello out e y ed)
      (subst (λ (k : ℕ). k ≤ length out) (sym l) f) (value_written K out ev l f w) ea
