-- The words of a line.
use Prim.Native.Nat.{ℕ, suc, ◌+◌, ◌-◌}
use mathlib.Core.Bool.{Bool, true, false, cond}
use mathlib.Core.Path.{◌≡◌, refl, ap, ◌∙◌}
use mathlib.Core.List.{List, [], ◌∷◌}
use native.Mathlib.Omega.{arith}
use lib.Dec.{eqb}
use lib.ListN.{length, take, drop, length-drop}
use lib.Seq.{take_all}
use Rattle.std.specs.List.{prefix_len}
use Rattle.text.specs.Field.{field_len, field_end}
use Rattle.text.proofs.Ends.{len_within}
use Rattle.script_line.specs.Words.{spaces, unspaced, first_word, behind_word, word}

-- spaces
abbrev pub is_space : ℕ → Bool
is_space c = eqb c 32

one : (t : Bool) (n : ℕ) → cond t (suc n) 0 ≡ cond t (1 + n) 0
one true n = omega arith
one false n = refl

pub spaces_are : (s : List ℕ) → spaces s ≡ prefix_len is_space s
unfolding spaces
spaces_are [] = refl
spaces_are (c ∷ cs) = rw (spaces_are cs) (one (eqb c 32) _)

-- the first word, and what stands behind it
first_end : (s : List ℕ) → field_end s 0 ≡ field_len s
unfolding field_end
first_end s = omega (arith, len_within s)

pub split_is : (s : List ℕ) {n end : ℕ} {a b : List ℕ} → n ≡ spaces s → end ≡ field_end (take (length s - n) (drop n s)) 0
    → a ≡ take end (take (length s - n) (drop n s)) → b ≡ drop end (take (length s - n) (drop n s)) → (a ≡ first_word s) × (b ≡ behind_word s)
split_is s {n} {end} en ee ea eb =
    let all : take (length s - n) (drop n s) ≡ drop n s = take_all (length s - n) (drop n s) (simp length-drop (omega arith)) in
    let u : take (length s - n) (drop n s) ≡ unspaced s = all ∙ ap (λ (k : ℕ). drop k s) en in
    let k : end ≡ field_len (unspaced s) = ee ∙ ap (λ (x : List ℕ). field_end x 0) u ∙ first_end (unspaced s) in
    (rw (k, u) at ea, rw (k, u) at eb)

-- one word more is passed
pub word_next : (k : ℕ) (s : List ℕ) → word k (behind_word s) ≡ word (suc k) s
unfolding word
word_next k s = refl

pub word_last : (s : List ℕ) → first_word s ≡ word 0 s
unfolding word
word_last s = refl
