-- Pieces of n elements of a list, as the code cuts them out: words of a block, and blocks.
use mathlib.Core.Path.{◌≡◌, sym, ap, ◌∙◌}
use mathlib.Core.List.{List, ◌++◌}
use Prim.Native.Nat.{ℕ, suc, ◌+◌, ◌-◌, ◌*◌, ◌/◌, ◌≤◌, ◌<◌}
use native.Mathlib.Nat.{mul-le-mul_right, suc-mul}
use native.Mathlib.Omega.{arith}
use lib.Arith.{digits_div}
use lib.ListN.{length, take, drop, length-drop, length-append}
use lib.Seq.{length-take-le, take-append_seam, drop-append_seam}
use Rattle.std.proofs.lemmas.List.{drop-drop}

module _ {A : Type 0} (xs : List A) (i n : ℕ) where
  pub piece : {a b : ℕ} → a ≡ n → b ≡ n → take (i * a + b - i * a) (drop (i * a) xs) ≡ take n (drop (i * n) xs)
  piece {a} {b} ea eb = let e : i * a + b - i * a ≡ n = omega arith in rw (e, ea)

  pub length-piece : (k : ℕ) → i < k → k * n ≤ length xs → length (take n (drop (i * n) xs)) ≡ n
  length-piece k h l = length-take-le n (drop (i * n) xs) (rw length-drop (omega (arith, mul-le-mul_right n h, suc-mul i n)))

-- The pieces one after the other: rest is what stands behind the first k.
module _ {A : Type 0} (xs : List A) (n k : ℕ) {rest : List A} (at : rest ≡ drop (k * n) xs) (within : k * n ≤ length xs) where
  -- the next one, and what stands behind it
  module _ (first next : List A) (cut : rest ≡ first ++ next) (whole : length first ≡ n) where
    pub next-piece : first ≡ take n (drop (k * n) xs)
    next-piece = sym (take-append_seam first next) ∙ ap (take (length first)) (sym cut ∙ at) ∙ ap (λ (m : ℕ). take m (drop (k * n) xs)) whole

    pub next-rest : next ≡ drop (suc k * n) xs
    next-rest =
        let e : k * n + length first ≡ suc k * n = omega (arith, suc-mul k n) in
        sym (drop-append_seam first next) ∙ ap (drop (length first)) (sym cut ∙ at) ∙ drop-drop (length first) (k * n) xs
        ∙ ap (λ (m : ℕ). drop m xs) e

    pub next-within : suc k * n ≤ length xs
    next-within =
        let l : length first + length next ≡ length xs - k * n = sym (length-append first next) ∙ ap length (sym cut ∙ at) ∙ length-drop (k * n) xs in
        omega (arith, suc-mul k n)

  -- behind the last one
  pub pieces : length rest < n → length xs / n ≡ k
  pieces less =
      let l : length rest ≡ length xs - k * n = ap length at ∙ length-drop (k * n) xs in
      let e : length xs ≡ k * n + length rest = omega arith in
      ap (λ (m : ℕ). m / n) e ∙ digits_div k less
