-- Laws of a round and of the message schedule, once for every variant.
use mathlib.Core.Path.{◌≡◌, sym, ◌∙◌}
use mathlib.Core.List.{List, []}
use Prim.Native.Nat.{ℕ, zero, suc, ◌+◌, ◌-◌, ◌%◌, ◌≤◌, ◌<◌}
use native.Mathlib.Nat.{add-suc, add-zero}
use native.Mathlib.Numerals.{add-one}
use native.Mathlib.Decide.{dec_le}
use native.Mathlib.Omega.{arith}
use lib.ListN.{length, get_or, set, length-append, length-set, get_or-append}
use lib.Seq.{get_or-set_same, get_or-set_other, get_or_at}
use Rattle.fips180.specs.Variant.{Variant}
use Rattle.fips180.specs.Hash.{round, rounds, next_word, schedule, W}

module _ (v : Variant) where
  module _ (m : List ℕ) (sixteen : length m ≡ 16) where
    pub length-schedule : (n : ℕ) → length (schedule v m n) ≡ 16 + n
    unfolding schedule
    length-schedule zero = sixteen
    length-schedule (suc n) = let h = length-schedule n in simp length-append (omega arith)

    -- a word of the schedule stays as it is
    pub stable : (n k i : ℕ) → i < 16 + n → get_or (schedule v m (n + k)) i 0 ≡ get_or (schedule v m n) i 0
    unfolding schedule
    stable n zero i h = rw add-zero
    stable n (suc k) i h =
        rw add-suc
        (get_or-append (schedule v m (n + k)) _ 0 i (omega (arith, length-schedule (n + k))) ∙ stable n k i h)

    pub W_is : (n i : ℕ) → i < 16 + n → get_or (schedule v m n) i 0 ≡ W v m i
    unfolding W
    W_is n i h = go (dec_le n i)
      where
        go : Dec (n ≤ i) → get_or (schedule v m n) i 0 ≡ get_or (schedule v m i) i 0
        go (yes p) = let e : n + (i - n) ≡ i = omega arith in sym (rw e at (stable n (i - n) i h))
        go (no q) = let e : i + (n - i) ≡ n = omega arith in rw e at (stable i (n - i) i (omega arith))

    -- the two equations of 6.2.2, step 1
    pub W-first : (t : ℕ) → t < 16 → W v m t ≡ get_or m t 0
    unfolding schedule
    W-first t h = sym (W_is 0 t (omega arith))

    pub W-next : (t : ℕ) → W v m (t + 16) ≡ next_word v (W v m t) (W v m (t + 1)) (W v m (t + 9)) (W v m (t + 14))
    unfolding schedule
    W-next t =
        let ws = schedule v m t in
        let a : get_or ws t 0 ≡ W v m t = W_is t t (omega arith) in
        let b : get_or ws (t + 1) 0 ≡ W v m (t + 1) = W_is t (t + 1) (omega arith) in
        let c : get_or ws (t + 9) 0 ≡ W v m (t + 9) = W_is t (t + 9) (omega arith) in
        let d : get_or ws (t + 14) 0 ≡ W v m (t + 14) = W_is t (t + 14) (omega arith) in
        sym (W_is (suc t) (t + 16) (omega arith))
        ∙ get_or_at ws _ [] 0 (t + 16) (omega (arith, length-schedule t))
        ∙ cc

  -- w holds the sixteen words of the schedule from word t on, word i at i % 16
  pub record Window (m w : List ℕ) (t : ℕ) : Type 0 where
    pub long : length w ≡ 16
    pub at : (j : ℕ) → j < 16 → get_or w ((t + j) % 16) 0 ≡ W v m (t + j)

  pub window_start : (m : List ℕ) → length m ≡ 16 → Window m m 0
  window_start m h =
      record {
        long = h;
        at = λ j k. let e : (0 + j) % 16 ≡ j = omega arith in let z : 0 + j ≡ j = omega arith in rw (e, z) (sym (W-first m h j k));
      }

  pub window_word : {m w : List ℕ} {t : ℕ} → Window m w t → get_or w (t % 16) 0 ≡ W v m t
  window_word {m} {w} {t} h = rw add-zero at (h.at 0 (omega arith))

  pub window_step : {m w : List ℕ} {t x : ℕ} → length m ≡ 16 → Window m w t
      → x ≡ next_word v (get_or w (t % 16) 0) (get_or w ((t + 1) % 16) 0) (get_or w ((t + 9) % 16) 0) (get_or w ((t + 14) % 16) 0)
      → Window m (set w (t % 16) x) (t + 1)
  window_step {m} {w} {t} {x} sixteen h e =
      record { long = length-set w (t % 16) x ∙ h.long; at = λ j k. go j k (dec_le 15 j) }
    where
      new : x ≡ W v m (t + 16)
      new =
          let a = window_word h in
          let b = h.at 1 (omega arith) in
          let c = h.at 9 (omega arith) in
          let d = h.at 14 (omega arith) in
          let f = W-next m sixteen t in cc

      go : (j : ℕ) → j < 16 → Dec (15 ≤ j) → get_or (set w (t % 16) x) ((t + 1 + j) % 16) 0 ≡ W v m (t + 1 + j)
      go j k (yes p) =
          let i : (t + 1 + j) % 16 ≡ t % 16 = omega arith in
          let n : t + 1 + j ≡ t + 16 = omega arith in
          let l = h.long in
          rw (i, n) (get_or-set_same w (t % 16) x 0 (omega arith) ∙ new)
      go j k (no q) =
          let n : t + 1 + j ≡ t + (1 + j) = omega arith in
          get_or-set_other w (t % 16) ((t + 1 + j) % 16) x 0 (λ z. omega arith) ∙ rw n (h.at (1 + j) (omega arith))

  -- one more round, with the word from the window
  pub rounds-step : (s : List ℕ) {m w x y : List ℕ} {t : ℕ} → x ≡ rounds v s m t → Window m w t
      → y ≡ round v x (get_or v.K t 0) (get_or w (t % 16) 0) → y ≡ rounds v s m (t + 1)
  unfolding rounds
  rounds-step s {m} {w} {x} {y} {t} ex h ey = rw add-one (let a = window_word h in cc)
