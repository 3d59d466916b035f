-- The compression sixteen rounds at a time is the compression of Hash. Once for every variant.
use mathlib.Core.Path.{◌≡◌, refl, sym, ap, ◌∙◌}
use mathlib.Core.List.{List}
use Prim.Native.Nat.{ℕ, zero, suc, ◌+◌, ◌-◌, ◌*◌, ◌%◌, ◌≤◌, ◌<◌}
use native.Mathlib.Nat.{add-suc, add-zero}
use native.Mathlib.Omega.{arith}
use lib.ListN.{length, get_or, set}
use lib.Seq.{get_or-take, get_or-drop}
use borrow.Author.Tests.{eq-eqb, ne_eqb}
use Rattle.fips180.specs.Variant.{Variant}
use Rattle.fips180.specs.Hash.{round, rounds, sums, compress, next_word, W}
use Rattle.fips180.specs.Rows.{constants_at, rounds_with, advanced, words_at}
use Rattle.fips180.proofs.Schedule.{Window, window_step}

module _ (v : Variant) where
  pub words-first : (w : List ℕ) (q : ℕ) → q ≡ 0 → w ≡ words_at v w q
  unfolding words_at
  words-first w q h = rw (eq-eqb _ _ h)

  pub words-next : {r : List ℕ} (w : List ℕ) (q : ℕ) → (q ≡ 0 → ⊥) → r ≡ advanced v w 16 → r ≡ words_at v w q
  unfolding words_at
  words-next w q h e = rw (ne_eqb _ _ h) e

  -- one more round, and one more word
  pub rounds-none : (s k w : List ℕ) → s ≡ rounds_with v s k w 0
  unfolding rounds_with
  rounds-none s k w = refl

  pub rounds-next : (s k w : List ℕ) (i : ℕ) {x y : List ℕ} → x ≡ rounds_with v s k w i
      → y ≡ round v x (get_or k i 0) (get_or w i 0) → y ≡ rounds_with v s k w (suc i)
  unfolding rounds_with
  rounds-next s k w i ex ey = ey ∙ ap (λ (z : List ℕ). round v z (get_or k i 0) (get_or w i 0)) ex

  pub advanced-none : (w : List ℕ) → w ≡ advanced v w 0
  unfolding advanced
  advanced-none w = refl

  pub advanced-next : (w : List ℕ) (i : ℕ) {a : List ℕ} {x : ℕ} → a ≡ advanced v w i
      → x ≡ next_word v (get_or a i 0) (get_or a ((i + 1) % 16) 0) (get_or a ((i + 9) % 16) 0) (get_or a ((i + 14) % 16) 0)
      → set a i x ≡ advanced v w (suc i)
  unfolding advanced
  advanced-next w i ea ex = cc

  -- the window moves on by the words that are replaced
  window_advanced : {m w : List ℕ} (p i : ℕ) → length m ≡ 16 → Window v m w (p * 16) → i ≤ 16
      → Window v m (advanced v w i) (p * 16 + i)
  unfolding advanced
  window_advanced p zero l h k = rw add-zero h
  window_advanced {m} {w} p (suc i) l h k =
      let t = p * 16 + i in
      let a : t % 16 ≡ i = omega arith in
      let b : (t + 1) % 16 ≡ (i + 1) % 16 = omega arith in
      let c : (t + 9) % 16 ≡ (i + 9) % 16 = omega arith in
      let d : (t + 14) % 16 ≡ (i + 14) % 16 = omega arith in
      let n : p * 16 + suc i ≡ t + 1 = omega arith in
      rw n (rw (a, b, c, d) at (window_step v l (window_advanced p i l h (omega arith)) refl))

  pub words_window : {m w z : List ℕ} (q : ℕ) → length m ≡ 16 → Window v m w ((q - 1) * 16) → z ≡ words_at v w q
      → Window v m z (q * 16)
  unfolding words_at
  words_window zero l h e = rw e h
  words_window {m} {w} {z} (suc p) l h e =
      let n : suc p * 16 ≡ p * 16 + 16 = omega arith in
      let o : suc p - 1 ≡ p = omega arith in
      let f = words-next {r = advanced v w 16} w (suc p) (λ i. omega arith) refl in
      let g : z ≡ advanced v w 16 = e ∙ sym f in
      rw (g, n) (window_advanced {m = m} {w = w} p 16 l (rw o at h) (omega arith))

  pub window_kept : {m z : List ℕ} (q : ℕ) → Window v m z (q * 16) → Window v m z ((q + 1 - 1) * 16)
  window_kept q h = let n : q + 1 - 1 ≡ q = omega arith in rw n h

  -- sixteen more rounds
  module _ (s : List ℕ) {m x k z : List ℕ} (q : ℕ) (ex : x ≡ rounds v s m (q * 16)) (h : Window v m z (q * 16))
      (ek : k ≡ constants_at v q) where
    some_rounds : (i : ℕ) → i ≤ 16 → rounds_with v x k z i ≡ rounds v s m (q * 16 + i)
    unfolding rounds_with rounds constants_at
    some_rounds zero l = rw add-zero ex
    some_rounds (suc i) l =
        let r = some_rounds i (omega arith) in
        let less : i < 16 = omega arith in
        let a : get_or k i 0 ≡ get_or v.K (q * 16 + i) 0 = rw (ek, get_or-take, get_or-drop) in
        let e : (q * 16 + i) % 16 ≡ i = omega arith in
        let b : get_or z i 0 ≡ W v m (q * 16 + i) = rw e at (h.at i less) in
        rw add-suc (cc)

    pub sixteen_rounds : {y : List ℕ} → y ≡ rounds_with v x k z 16 → y ≡ rounds v s m ((q + 1) * 16)
    sixteen_rounds ey = let n : (q + 1) * 16 ≡ q * 16 + 16 = omega arith in rw n (ey ∙ some_rounds 16 (omega arith))

  -- all the rounds
  pub all_rounds : (s m : List ℕ) {x r : List ℕ} (q : ℕ) → q * 16 ≡ v.rounds → x ≡ rounds v s m (q * 16)
      → r ≡ sums v s x → r ≡ compress v s m
  unfolding compress
  all_rounds s m q n ex er = er ∙ ap (sums v s) (ex ∙ ap (rounds v s m) n)
