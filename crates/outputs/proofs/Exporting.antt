-- What Export did, from what its code did.
use Prim.Native.Nat.{ℕ, ◌*◌, ◌≤◌, zero-le}
use mathlib.Core.Bool.{Bool, true, false, cond, ◌&&◌, ◌||◌}
use mathlib.Core.List.{List}
use mathlib.Core.Path.{◌≡◌, refl, sym, ap, ◌∙◌, subst}
use native.Mathlib.Omega.{arith}
use lib.Dec.{eqb, leb}
use lib.ListN.{length, take, drop}
use borrow.Author.Tests.{eqb-true, eqb-false, leb-true}
use Rattle.refusal.proofs.Laws.{and-true, or-true}
use Rattle.buffer.specs.Buffer.{fronted}
use Rattle.std.proofs.Common.{Err}
use Rattle.refusal.specs.declared.Refusal.{Refusal}
use Rattle.refusal.specs.Refusal.{number_of, Answer}
use Rattle.refusal.specs.Refusal as Refusal
use Rattle.refusal.specs.Answered.{Answered}
use Rattle.suite.specs.Suite.{known, hash_length, max_label}
use Rattle.suite.proofs.Laws.{bounded}
use Rattle.suite_hash.specs.Hash.{max_input}
use Rattle.hkdf.specs.Refusals.{expand_label_number}
use Rattle.hkdf.proofs.Limits.{label_allowed_lem}
use Rattle.schedule.specs.Schedule.{within, tls_exporter}
use Rattle.schedule.proofs.Laws.{length-tls_exporter}
use Rattle.session.specs.declared.Session.{Session}
use Rattle.book.specs.Call.{lent}
use Rattle.book.specs.Call.Call.{Export}
use Rattle.book.specs.Book.{Book, note}
use Rattle.book.specs.Refusals.{number, Reached, length_in_force, export_held, export_number}
use Rattle.session.specs.Values.{verdict}
use Rattle.session.specs.Session.{session_of}
use Rattle.session.specs.Promise.{Done, wrote}
use Rattle.book.proofs.AcceptedReads.{ExportTaken, export_zero}
use Rattle.book.proofs.Books.{good}
use Rattle.session.proofs.Fields.{suite_is, point_is}
use Rattle.session.proofs.Calls.{accepted}
use Rattle.outputs.specs.Places.{exporter_place}
use Rattle.outputs.proofs.Deciding.{export_is}
use Rattle.outputs.proofs.Places.{export_value}
use Rattle.outputs.proofs.Answers.{refused-with}

-- an exporter secret is held only at points that have a suite
export_point : (point ran name : ℕ) → export_held point ran name ≡ true → (1 ≤ point) × (point ≤ 4)
export_point point ran name =
    or-true (eqb name 1 && (eqb ran 1 && (leb 1 point && leb point 3))) _
    (λ e. let h = and-true (leb 1 point) (leb point 3) (and-true (eqb ran 1) (leb 1 point && leb point 3) (and-true (eqb name 1)
    (eqb ran 1 && (leb 1 point && leb point 3)) e).1).1 in
    let k : 1 ≤ point = leb-true 1 point h.0 in
    let j : point ≤ 3 = leb-true point 3 h.1 in
    (k, omega arith))
    (λ e. or-true (eqb point 3) (eqb point 4) (λ q. let i : point ≡ 3 = eqb-true point 3 q in (omega arith, omega arith))
    (λ q. let i : point ≡ 4 = eqb-true point 4 q in (omega arith, omega arith))
    (and-true (eqb name 2) (eqb point 3 || eqb point 4) e).1)

in_force_some : (t : Bool) (asked : ℕ) → eqb asked 0 ≡ t → 1 ≤ cond t 32 asked
in_force_some true asked e = omega arith
in_force_some false asked e = let h : asked ≡ 0 → ⊥ = eqb-false asked 0 e in omega arith

pub export_refused : (s : Session) (name : ℕ) (l context : List ℕ) (asked : ℕ) (out : List ℕ) (e : Refusal) {a : Answer}
    → number_of e ≡ export_number s.point s.suite s.early name (length l) (length context) asked (length out) → a ≡ Err e
    → Done s (Export name l context asked out) s (wrote a out)
unfolding lent
export_refused s name l context asked out e en ea =
    refused-with s (Export name l context asked out) e (export_is s name l context asked out en) ea

module _ (s : Session) (name : ℕ) (l context : List ℕ) (asked : ℕ) (out : List ℕ) {m : ℕ} {secret : List ℕ}
    (en : 0 ≡ export_number s.point s.suite s.early name (length l) (length context) asked (length out))
    (em : m ≡ length_in_force asked)
    (es : secret ≡ exporter_place s name) where
  abbrev lower : ℕ
  lower = expand_label_number s.suite (hash_length s.suite) 8 (hash_length s.suite) m (length out)

  abbrev bytes : List ℕ
  bytes = tls_exporter s.suite (take (hash_length s.suite) secret) (within max_label l) (within max_input context) m

  is : (b : Book) → Reached b → s ≡ session_of b → number b (Export name l context asked out) ≡ 0
  is b r e = sym (export_is s name l context asked out en b r e)

  taken : ExportTaken s.point s.suite s.early name (length l) (length context) asked (length out)
  taken = export_zero s.point s.suite s.early name (length l) (length context) asked (length out) (sym en)

  some : 1 ≤ m
  some = subst (λ (k : ℕ). 1 ≤ k) (sym em) (in_force_some (eqb asked 0) asked refl)

  -- the lower call refuses no session that a book describes
  lower_accepts : (b : Book) → Reached b → s ≡ session_of b → lower ≡ 0
  lower_accepts b r e =
      let p = export_point s.point s.early name taken.held in
      let i = point_is s b e in
      let h : hash_length s.suite ≤ 48 = (bounded s.suite).hash in
      label_allowed_lem s.suite (ap (λ (u : ℕ). known u) (suite_is s b e) ∙ (good r).suited (subst (λ (k : ℕ). 1 ≤ k) i p.0)
      (subst (λ (k : ℕ). k ≤ 4) i p.1))
      8 (hash_length s.suite) m (length out) (omega arith) (omega arith) (omega arith) some
      (subst (λ (k : ℕ). k ≤ 255 * hash_length s.suite) (sym em) taken.askable)
      (subst (λ (k : ℕ). k ≤ length out) (sym em) taken.fits)

  by_answer : (t : Bool) → eqb lower 0 ≡ t → (a : Answer) (exit : List ℕ) → Refusal.number a ≡ lower → Refusal.count a ≡ cond t
      (length bytes) 0
      → exit ≡ cond t (fronted bytes out) out → Done s (Export name l context asked out) s (wrote a exit)
  unfolding lent note verdict
  by_answer true t a exit ea ec eo =
      let k : Refusal.count a ≡ m = ec ∙ length-tls_exporter s.suite (take (hash_length s.suite) secret) (within max_label l)
      (within max_input context) m in
      accepted s (Export name l context asked out) s bytes (Refusal.number a) (Refusal.count a) false exit is (λ b r e q. e)
      (λ b r e q. (export_value s b name l context asked out e q em es, refl)) (ea ∙ eqb-true lower 0 t) ec eo
      (subst (λ (j : ℕ). j ≤ length out) (sym (k ∙ em)) taken.fits)
  by_answer false t a exit ea ec eo =
      record {
        unchanged = λ h. (refl, ec, refl, eo);
        fits = subst (λ (j : ℕ). j ≤ length out) (sym ec) zero-le;
        size = ap length eo;
        beyond = ap (drop (Refusal.count a)) eo;
        session = λ b r e. absurd (eqb-false lower 0 t (lower_accepts b r e));
        answer = λ b r e. absurd (eqb-false lower 0 t (lower_accepts b r e));
      }

  pub exported : (a : Answer) {exit : List ℕ} → Answered lower bytes out a exit → Done s (Export name l context asked out) s
      (wrote a exit)
  exported a {exit} d = by_answer (eqb lower 0) refl a exit d.number d.count d.output
