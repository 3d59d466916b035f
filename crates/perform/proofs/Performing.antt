-- Performing an encoded list: a run goes on by one call a record, until one does not fit.
use Prim.Native.Nat.{ℕ, zero, suc, ◌+◌, ◌-◌, ◌≤◌, ◌<◌}
use mathlib.Core.Bool.{Bool, true, false}
use mathlib.Core.List.{List, [], ◌∷◌, ◌++◌, append_assoc, append-nil}
use mathlib.Core.Path.{◌≡◌, refl, sym, ap, ◌∙◌, subst}
use native.Mathlib.Omega.{arith}
use lib.ListN.{length, get_or, take, drop, length-append, length-take, length-drop}
use lib.Seq.{drop-drop, drop_at}
use borrow.Author.Tests.{le-leb, lt-leb, leb-true}
use Rattle.refusal.proofs.Laws.{and-true}
use Rattle.frames.specs.Frames.{number_at}
use Rattle.session.specs.declared.Session.{Session}
use Rattle.book.specs.Call.{Call}
use Rattle.session.specs.Promise.{Reply, Done, after}
use Rattle.std.specs.Result.{result_unwrap_or}
use Rattle.std.proofs.Common.{Result, Ok, Err}
use Rattle.refusal.specs.declared.Refusal.{Refusal}
use Rattle.perform.specs.declared.encoded.Header.{Header}
use Rattle.history.specs.Histories.{Event, Run, calls, fresh_session}
use Rattle.history.specs.Histories.Run.{ends, goes}
use Rattle.perform.specs.Encoding.{header_at, call_of, call_at, fits, decoded_from, decoded}

-- a header is its numbers
pub header_is : (list : List ℕ) (at : ℕ) {k n w a b m o : ℕ} → k ≡ get_or list at 0 → n ≡ get_or list (at + 1) 0
    → w ≡ number_at 2 list (at + 2)
    → a ≡ number_at 4 list (at + 4) → b ≡ number_at 4 list (at + 8) → m ≡ number_at 4 list (at + 12) → o ≡ number_at 4 list (at + 16)
    → ◌≡◌ {A = Header} (record { kind = k; small = n; wide = w; first = a; second = b; asked = m; room = o }) (header_at list at)
unfolding header_at
header_is list at p q r s t u v i = record { kind = p i; small = q i; wide = r i; first = s i; second = t i; asked = u i; room = v i }

-- whether a record fits, by the tests of the code
module _ (h : Header) (size lent at used : ℕ) where
  pub no_strings : size < at + 20 + h.first + h.second → false ≡ fits h size lent at used
  unfolding fits
  no_strings p = simp (lt-leb _ _ p)

  pub no_room : at + 20 + h.first + h.second ≤ size → lent < used + h.room → false ≡ fits h size lent at used
  unfolding fits
  no_room p q = simp (le-leb _ _ p, lt-leb _ _ q)

  pub all_there : at + 20 + h.first + h.second ≤ size → used + h.room ≤ lent → true ≡ fits h size lent at used
  unfolding fits
  all_there p q = simp (le-leb _ _ p, le-leb _ _ q)

  pub fits-tells : fits h size lent at used ≡ true → (at + 20 + h.first + h.second ≤ size) × (used + h.room ≤ lent)
  unfolding fits
  fits-tells e =
      let b = and-true _ _ e in
      (leb-true (at + 20 + h.first + h.second) size b.0, leb-true (used + h.room) lent b.1)

-- a run with one more call
run_more : {s t u : Session} {events : List Event} {c : Call} {g : Reply} → Run s events t → Done t c u g
    → Run s (events ++ (record { call = c; given = g } ∷ [])) u
run_more ends d = goes d ends
run_more (goes d₀ r) d = goes d₀ (run_more r d)

calls-more : (events : List Event) (e : Event) → calls (events ++ (e ∷ [])) ≡ calls events ++ (e.call ∷ [])
unfolding calls
calls-more [] e = refl
calls-more (x ∷ xs) e = ap (λ (l : List Call). x.call ∷ l) (calls-more xs e)

-- Where the loop stands: a run of the calls before index at, on what lies in lent, of which all behind the used bytes is as
-- it was.
pub record Going (list old : List ℕ) (s : Session) (at used : ℕ) (lent : List ℕ) : Type 0 where
  pub events : List Event
  pub fuel : ℕ
  pub run : Run fresh_session events s
  pub all : calls events ++ decoded_from fuel list old at used ≡ decoded list old
  pub enough : length list ≤ at + fuel
  pub within : at ≤ length list
  pub filled : used ≤ length lent
  pub same : length lent ≡ length old
  pub behind : drop used lent ≡ drop used old

pub start : (list old : List ℕ) (s : Session) → s ≡ fresh_session → Going list old s 0 0 old
unfolding calls
start list old s e =
    record {
      events = [];
      fuel = length list;
      run = subst (λ (x : Session). Run fresh_session [] x) (sym e) ends;
      all = refl;
      enough = omega arith;
      within = omega arith;
      filled = omega arith;
      same = refl;
      behind = refl;
    }

-- the list goes on with the record at index at, or ends there
pub more_by : (n : ℕ) (list old : List ℕ) (at used : ℕ) {h : Header} → h ≡ header_at list at
    → fits h (length list) (length old) at used ≡ true
    → decoded_from (suc n) list old at used
    ≡ call_at h list old at used ∷ decoded_from n list old (at + 20 + h.first + h.second) (used + h.room)
unfolding decoded_from
more_by n list old at used e f = rw (sym e, f)

pub none-by : (n : ℕ) (list old : List ℕ) (at used : ℕ) → fits (header_at list at) (length list) (length old) at used ≡ false
    → decoded_from n list old at used ≡ []
unfolding decoded_from
none-by zero list old at used f = refl
none-by (suc n) list old at used f = rw f

-- a part that was lent from index a on, and what lies behind it after
behind-part : (a k : ℕ) (xs ys : List ℕ) → a + k ≤ length xs → length ys ≡ k
    → drop (a + k) (take a xs ++ (ys ++ drop k (drop a xs))) ≡ drop (a + k) xs
behind-part a k xs ys f e =
    let l : length (take a xs) ≡ a = simp length-take (omega arith) in
    sym (drop-drop k a (take a xs ++ (ys ++ drop k (drop a xs))))
    ∙ ap (drop k) (drop_at (take a xs) (ys ++ drop k (drop a xs)) a l)
    ∙ drop_at ys (drop k (drop a xs)) k e
    ∙ drop-drop k a xs

length_part : (a k : ℕ) (xs ys : List ℕ) → a + k ≤ length xs → length ys ≡ k
    → length (take a xs ++ (ys ++ drop k (drop a xs))) ≡ length xs
length_part a k xs ys f e = simp (length-append, length-take, length-drop) (omega arith)

-- a call that was made with the parts of its record
abbrev pub Made : Session → Header → List ℕ → List ℕ → ℕ → ℕ → Session → Type 0
Made s h list lent at used after = (given : Reply) × Done s (call_at h list lent at used) after given

pub made : (s : Session) (h : Header) (list lent : List ℕ) (at used : ℕ) (after : Session) (i j k : ℕ)
    → i ≡ h.first → j ≡ h.second → k ≡ h.room
    → (given : Reply)
    × Done s
    (call_of h.kind h.small h.wide h.asked (take i (drop (at + 20) list)) (take j (drop (at + 20 + h.first) list))
    (take k (drop used lent)))
    after
    given
    → Made s h list lent at used after
unfolding call_at
made s h list lent at used after i j k p q r d = (d.0, subst (λ (c : Call). Done s c after d.0) (rw (p, q, r)) d.1)

call_same : (h : Header) (list lent old : List ℕ) (at used : ℕ) → drop used lent ≡ drop used old
    → call_at h list lent at used ≡ call_at h list old at used
unfolding call_at
call_same h list lent old at used e = rw e

turn_by : (fuel : ℕ) (list old : List ℕ) (s after : Session) (at used : ℕ) (lent : List ℕ) (h : Header) (ys : List ℕ)
    (events : List Event) → Run fresh_session events s → calls events ++ decoded_from fuel list old at used ≡ decoded list old
    → length list ≤ at + fuel → length lent ≡ length old → drop used lent ≡ drop used old → h ≡ header_at list at
    → fits h (length list) (length lent) at used ≡ true → Made s h list lent at used after → length ys ≡ h.room
    → Going list old after (at + 20 + h.first + h.second) (used + h.room)
    (take used lent ++ (ys ++ drop h.room (drop used lent)))
turn_by zero list old s after at used lent h ys events run all enough same behind eh f d ey =
    let t = fits-tells h (length list) (length lent) at used f in absurd (omega (arith, t.0))
turn_by (suc n) list old s after at used lent h ys events run all enough same behind eh f d ey =
    record {
      events = events ++ (record { call = call_at h list lent at used; given = d.0 } ∷ []);
      fuel = n;
      run = run_more run d.1;
      all =
          ap (λ (l : List Call). l ++ rest) (calls-more events (record { call = call_at h list lent at used; given = d.0 }))
          ∙ append_assoc (calls events) (call_at h list lent at used ∷ []) rest
          ∙ ap (λ (c : Call). calls events ++ (c ∷ rest)) (call_same h list lent old at used behind)
          ∙ ap (λ (l : List Call). calls events ++ l) (sym (more_by n list old at used eh fit))
          ∙ all;
      enough = omega (arith, t.0);
      within = omega (arith, t.0);
      filled = omega (arith, t.1, long);
      same = long ∙ same;
      behind =
          behind-part used h.room lent ys t.1 ey
          ∙ sym (drop-drop h.room used lent)
          ∙ ap (drop h.room) behind
          ∙ drop-drop h.room used old;
    }
  where
    rest : List Call
    rest = decoded_from n list old (at + 20 + h.first + h.second) (used + h.room)

    t : (at + 20 + h.first + h.second ≤ length list) × (used + h.room ≤ length lent)
    t = fits-tells h (length list) (length lent) at used f

    fit : fits h (length list) (length old) at used ≡ true
    fit = subst (λ (m : ℕ). fits h (length list) m at used ≡ true) same f

    long : length (take used lent ++ (ys ++ drop h.room (drop used lent))) ≡ length lent
    long = length_part used h.room lent ys t.1 ey

pub turn : (list old : List ℕ) (s after : Session) (at used : ℕ) (lent : List ℕ) (h : Header) (ys : List ℕ)
    → Going list old s at used lent → h ≡ header_at list at → fits h (length list) (length lent) at used ≡ true
    → Made s h list lent at used after → length ys ≡ h.room
    → Going list old after (at + 20 + h.first + h.second) (used + h.room)
    (take used lent ++ (ys ++ drop h.room (drop used lent)))
turn list old s after at used lent h ys g eh f d ey =
    turn_by g.fuel list old s after at used lent h ys g.events g.run g.all g.enough g.same g.behind eh f d ey

-- the same, from what the code has
pub whole_tells : (h : Header) (size lent at used : ℕ) {t : Bool} → t ≡ fits h size lent at used → t ≡ true
    → (at + 20 + h.first + h.second ≤ size) × (used + h.room ≤ lent)
whole_tells h size lent at used {t} e f = fits-tells h size lent at used (sym e ∙ f)

pub turned : (list old : List ℕ) (s after : Session) (at used : ℕ) (lent : List ℕ) (h : Header) (ys : List ℕ) {t : Bool}
    → Going list old s at used lent → h ≡ header_at list at → t ≡ fits h (length list) (length lent) at used → t ≡ true
    → (given : Reply)
    × Done s
    (call_of h.kind h.small h.wide h.asked (take (at + 20 + h.first - (at + 20)) (drop (at + 20) list))
    (take (at + 20 + h.first + h.second - (at + 20 + h.first)) (drop (at + 20 + h.first) list))
    (take (used + h.room - used) (drop used lent)))
    after
    given
    → length ys ≡ length (take (used + h.room - used) (drop used lent))
    → Going list old after (at + 20 + h.first + h.second) (used + h.room)
    (take used lent ++ (ys ++ drop (used + h.room - used) (drop used lent)))
turned list old s after at used lent h ys {t} g eh e f d ey =
    let p : at + 20 + h.first - (at + 20) ≡ h.first = omega arith in
    let q : at + 20 + h.first + h.second - (at + 20 + h.first) ≡ h.second = omega arith in
    let r : used + h.room - used ≡ h.room = omega arith in
    let b = whole_tells h (length list) (length lent) at used e f in
    let l : length (take (used + h.room - used) (drop used lent)) ≡ h.room = simp (length-take, length-drop) (omega (arith, b.1)) in
    rw r
    (turn list old s after at used lent h ys g eh (sym e ∙ f) (made s h list lent at used after _ _ _ p q r d) (ey ∙ l))

-- what `perform` promises
abbrev pub Performed : List ℕ → List ℕ → Session → Type 0
Performed list old s = (events : List Event) × (calls events ≡ decoded list old) × Run fresh_session events s

-- the record at index at does not fit, or index at is the end
pub ended : (list old : List ℕ) (s : Session) (at used : ℕ) (lent : List ℕ) (h : Header) → Going list old s at used lent
    → h ≡ header_at list at → {t : Bool} → t ≡ fits h (length list) (length lent) at used → t ≡ false → Performed list old s
ended list old s at used lent h g eh {t} e f =
    let fit : fits (header_at list at) (length list) (length old) at used ≡ false =
    rw (sym eh, sym g.same) (sym e ∙ f) in
    let none = none-by g.fuel list old at used fit in
    (g.events, sym (append-nil (calls g.events)) ∙ ap (λ (l : List Call). calls g.events ++ l) (sym none) ∙ g.all, g.run)

pub finished : (list old : List ℕ) (s : Session) (at used : ℕ) (lent : List ℕ) → Going list old s at used lent → length list ≤ at
    → Performed list old s
finished list old s at used lent g e =
    ended list old s at used lent (header_at list at) g refl
    (no_strings (header_at list at) (length list) (length lent) at used (omega arith))
    refl

-- a call by its kind
pub called : {s after : Session} {given : Reply} {c d : Call} → Done s c after given → d ≡ c → (g : Reply) × Done s d after g
called {s} {after} {given} x e = (given, subst (λ (c : Call). Done s c after given) (sym e) x)

-- and of one that may change the session, after which the session goes on
pub went : {s t : Session} {given : Reply} {c d : Call} (r : Result Session Refusal) → Done s c (after s r) given
    → t ≡ result_unwrap_or r s → d ≡ c → (g : Reply) × Done s d t g
went {s} {given = given} {c} (Ok next) x et e = called (subst (λ (z : Session). Done s c z given) (sym et) x) e
went {s} {given = given} {c} (Err why) x et e = called (subst (λ (z : Session). Done s c z given) (sym et) x) e
