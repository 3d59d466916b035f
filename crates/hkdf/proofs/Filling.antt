-- The loop of `fill`: what holds at its head, and the laws of a turn, over plain lists and numbers.
use Prim.Native.Nat.{ℕ, suc, ◌+◌, ◌-◌, ◌*◌, ◌/◌, ◌%◌, ◌≤◌, ◌<◌, min}
use Rattle.std.proofs.lemmas.Grind.{div_ceil_times}
use mathlib.Core.Path.{◌≡◌, refl, sym, ap, ◌∙◌}
use mathlib.Core.List.{List, [], ◌∷◌, ◌++◌, append_assoc}
use native.Mathlib.Nat.{suc-mul, mul-le-mul_right, div-eq_of_lt-le}
use native.Mathlib.Numerals.{add-one}
use native.Mathlib.Omega.{arith}
use lib.ListN.{length, take, drop}
use lib.Seq.{take_all, take_at, drop_at, take-append-le, take-append-add, length-take-le, drop-drop}
use Rattle.buffer.specs.Buffer.{zeros, overwrite, fronted, placed, after}
use Rattle.buffer.proofs.Laws.{after-fits, length-overwrite, placed_is, length-zeros}
use Rattle.suite.specs.Suite.{hash_length}
use Rattle.suite.proofs.Laws.{bounded}
use Rattle.hmac.specs.Rfc2104.{hmac}
use Rattle.hkdf.specs.Rfc5869.{blocks_for, T, Ts, expand}
use Rattle.hkdf.proofs.Values.{some_hash, length-T, length-Ts}

-- the numbers and the lengths
pub record Filling (s asked : ℕ) (old : List ℕ) (h : ℕ) (new t : List ℕ) (size i at : ℕ) : Type 0 where
  pub hash : h ≡ hash_length s
  pub small : size ≤ 48
  pub long : length new ≡ length old
  pub wide : length t ≡ 48
  pub within : at ≤ asked
  pub covered : at ≤ i * h
  pub exact : at < asked → at ≡ i * h
  pub fewest : i * h < asked + h

-- the bytes, of a key and an info
pub record Filled (s : ℕ) (k info old new t : List ℕ) (size i at : ℕ) : Type 0 where
  pub block : t ≡ placed (T s k info i)
  pub sized : size ≡ length (T s k info i)
  pub bytes : new ≡ take at (Ts s k info i) ++ drop at old

-- ---- where a block goes

-- each block that is counted starts before the end of what is asked
pub starts_within : (h asked i : ℕ) {blocks : ℕ} → 0 < h → blocks ≡ asked / h + min 1 (asked % h) → i < blocks → i * h < asked
starts_within h asked i {blocks} some eb less =
    let t : blocks * h < asked + h = rw eb (div_ceil_times asked h some).1 in
    let m : (i + 1) * h ≤ blocks * h = mul-le-mul_right h (omega arith) in
    let s : (i + 1) * h ≡ i * h + h = ap (λ (n : ℕ). n * h) (add-one i) ∙ suc-mul i h in
    omega arith

-- and what is asked ends with the last of them
pub ends_within : (h asked i : ℕ) {blocks : ℕ} → 0 < h → blocks ≡ asked / h + min 1 (asked % h) → blocks ≤ i → asked ≤ i * h
ends_within h asked i {blocks} some eb all =
    let t : asked ≤ blocks * h = rw eb (div_ceil_times asked h some).0 in
    let m : blocks * h ≤ i * h = mul-le-mul_right h all in
    omega arith

pub next_place : (h asked i n : ℕ) → i * h < asked → n ≡ min h (asked - i * h) → i * h + n ≡ min ((i + 1) * h) asked
next_place h asked i n less en =
    let s : (i + 1) * h ≡ i * h + h = ap (λ (n : ℕ). n * h) (add-one i) ∙ suc-mul i h in
    omega arith

-- ---- a value in its place of 48 bytes

pub placed_front : (xs : List ℕ) (n : ℕ) → n ≤ length xs → take n (placed xs) ≡ take n xs
placed_front xs n h = ap (take n) (placed_is xs) ∙ take-append-le n xs (zeros (48 - length xs)) h

-- ---- one turn

splice : (P B old new : List ℕ) (at n : ℕ) → length P ≡ at → new ≡ P ++ drop at old
    → take at new ++ (take n B ++ drop (at + n) new) ≡ take (at + n) (P ++ B) ++ drop (at + n) old
splice P B old new at n lp e =
    let a : take at new ≡ P = ap (take at) e ∙ take_at P (drop at old) at lp in
    let b : drop (at + n) new ≡ drop (at + n) old =
    sym (drop-drop n at new) ∙ ap (drop n) (ap (drop at) e ∙ drop_at P (drop at old) at lp) ∙ drop-drop n at old in
    let d : take (at + n) (P ++ B) ≡ P ++ take n B = rw (← lp) (take-append-add P B n) in
    rw (a, b, d, append_assoc) refl

pub block-next : (s : ℕ) (k info prev : List ℕ) (i : ℕ) → prev ≡ T s k info i → hmac s k (prev ++ (info ++ ((i + 1) ∷ []))) ≡ T s k info (suc i)
unfolding T
block-next s k info prev i e = rw (e, add-one i)

-- ---- the numbers and the lengths

module _ (s asked : ℕ) (old : List ℕ) (h : ℕ) where
  pub start : {t : List ℕ} → h ≡ hash_length s → t ≡ zeros 48 → Filling s asked old h old t 0 0 0
  start {t} e et =
      let l = some_hash s in
      let z : length (zeros 48) ≡ 48 = length-zeros 48 in
      record {
        hash = e;
        small = omega arith;
        long = refl;
        wide = ap length et ∙ z;
        within = omega arith;
        covered = omega arith;
        exact = λ lt. omega arith;
        fewest = omega arith;
      }

  module _ (new t : List ℕ) (size i at : ℕ) (f : Filling s asked old h new t size i at) where
    pub turn : (n : ℕ) (t' new' : List ℕ) → asked ≤ length old → at < asked → n ≡ min h (asked - at) → length t' ≡ 48
        → new' ≡ after at (take n t') new → Filling s asked old h new' t' h (i + 1) (at + n)
    turn n t' new' room lt en wide' ey =
        let l = some_hash s in
        let m = (bounded s).hash in
        let eh = f.hash in
        let eat = f.exact lt in
        let ln1 = f.long in
        let wi = f.within in
        let ln : length (take n t') ≡ n = length-take-le n t' (omega arith) in
        let step : (i + 1) * h ≡ i * h + h = ap (λ (m : ℕ). m * h) (add-one i) ∙ suc-mul i h in
        let fit : at + length (take n t') ≤ length new = omega arith in
        record {
          hash = eh;
          small = omega arith;
          long = ap length (ey ∙ after-fits at (take n t') new fit) ∙ length-overwrite at (take n t') new fit ∙ ln1;
          wide = wide';
          within = omega arith;
          covered = omega arith;
          exact = λ lt'. omega arith;
          fewest = omega arith;
        }

-- ---- the bytes

module _ (s : ℕ) (k info old : List ℕ) where
  pub start-bytes : {t : List ℕ} → t ≡ zeros 48 → Filled s k info old old t 0 0 0
  unfolding T Ts placed fronted
  start-bytes et = record { block = et; sized = refl; bytes = refl }

  module _ (asked h : ℕ) (new t : List ℕ) (size i at : ℕ) (f : Filling s asked old h new t size i at) (g : Filled s k info old new t size i at) where
    splice_blocks : (P B : List ℕ) (n : ℕ) → P ≡ Ts s k info i → B ≡ T s k info (suc i) → length P ≡ at → new ≡ P ++ drop at old
        → take at new ++ (take n B ++ drop (at + n) new) ≡ take (at + n) (Ts s k info (suc i)) ++ drop (at + n) old
    unfolding Ts
    splice_blocks P B n ep eb lp e = rw (← ep, ← eb) (splice P B old new at n lp e)

    pub turn-bytes : (n : ℕ) (t' new' : List ℕ) → asked ≤ length old → at < asked → n ≡ min h (asked - at)
        → t' ≡ placed (hmac s k (take size t ++ (info ++ ((i + 1) ∷ []))))
        → new' ≡ after at (take n t') new → Filled s k info old new' t' h (i + 1) (at + n)
    unfolding overwrite
    turn-bytes n t' new' room lt en et ey =
        let eh = f.hash in
        let eat = f.exact lt in
        let B = T s k info (suc i) in
        let P = Ts s k info i in
        let prev : take size t ≡ T s k info i =
        ap (take size) g.block ∙ placed_front (T s k info i) size (omega (arith, g.sized)) ∙ take_all size (T s k info i) (omega (arith, g.sized)) in
        let et' : t' ≡ placed B = et ∙ ap placed (block-next s k info (take size t) i prev) in
        let lb : length B ≡ h = length-T s k info i ∙ sym eh in
        let im : i * h ≡ i * hash_length s = ap (λ (m : ℕ). i * m) eh in
        let lp : length P ≡ at = length-Ts s k info i ∙ sym im ∙ sym eat in
        let bs : take n t' ≡ take n B = ap (take n) et' ∙ placed_front B n (omega arith) in
        let ln : length (take n t') ≡ n = ap length bs ∙ length-take-le n B (omega arith) in
        let en0 : new ≡ P ++ drop at old = g.bytes ∙ ap (λ (u : List ℕ). u ++ drop at old) (take_all at P (omega arith)) in
        let ln1 = f.long in
        let fit : at + length (take n t') ≤ length new = omega arith in
        let whole : new' ≡ take (at + n) (Ts s k info (suc i)) ++ drop (at + n) old =
        ey ∙ after-fits at (take n t') new fit ∙ rw (ln, bs) (splice_blocks P B n refl refl lp en0) in
        record { block = rw add-one et'; sized = rw add-one (sym lb); bytes = rw add-one whole }

    pub done : asked ≤ at → new ≡ fronted (expand s k info asked) old
    unfolding expand blocks_for fronted
    done ge =
        let l = some_hash s in
        let eh = f.hash in
        let co = f.covered in
        let wi = f.within in
        let fe = f.fewest in
        let im : i * h ≡ i * hash_length s = ap (λ (m : ℕ). i * m) eh in
        let ea : at ≡ asked = omega arith in
        let am : (i + 1) * hash_length s ≡ i * hash_length s + hash_length s = ap (λ (m : ℕ). m * hash_length s) (add-one i) ∙ suc-mul i (hash_length s) in
        let count : (asked + (hash_length s - 1)) / hash_length s ≡ i = div-eq_of_lt-le (hash_length s) (omega arith) (omega arith) in
        let lb = length-Ts s k info i in
        let lt : length (take asked (Ts s k info i)) ≡ asked = length-take-le asked (Ts s k info i) (omega arith) in
        rw (count, lt) (rw (← ea) g.bytes)
