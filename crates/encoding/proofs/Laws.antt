-- Laws of words as bytes, and of a session's numbers.
use Prim.Native.Nat.{ℕ, zero, suc, ◌+◌, ◌*◌, ◌/◌, ◌%◌, ◌^◌, ◌<◌}
use mathlib.Core.Path.{◌≡◌, refl, sym, ap, ◌∙◌}
use mathlib.Core.List.{List, [], ◌∷◌, ◌++◌, append_assoc, append-nil}
use native.Mathlib.Nat.{pow-suc}
use native.Mathlib.Omega.{arith}
use Rattle.std.proofs.Math.Nat.{div-div-eq-div-mul}
use Rattle.std.specs.Int.{w16, w32, w64, bytes_low_first, from_le_bytes}
use lib.ListN.{length, get_or, take, drop, length-append}
use lib.Seq.{drop-drop, take_all}
use Rattle.buffer.specs.Numbers.{le, number}
use Rattle.buffer.proofs.Numbers.{length-le, number_2, number_4, number_8}
use Rattle.session.specs.declared.Session.{Session}
use Rattle.encoding.specs.Words.{le_words, words}
use Rattle.encoding.specs.Encoding.{part, encoded_numbers}

pub length-words : (n : ℕ) (bs : List ℕ) → length (words n bs) ≡ n
unfolding words
length-words zero bs = refl
length-words (suc n) bs = ap suc (length-words n (drop 8 bs))

pub words_at_lem : (n : ℕ) (bs : List ℕ) (i : ℕ) → i < n → get_or (words n bs) i 0 ≡ number (take 8 (drop (i * 8) bs))
unfolding words
words_at_lem zero bs i h = absurd (omega arith)
words_at_lem (suc n) bs zero h = refl
words_at_lem (suc n) bs (suc i) h =
    let e : 8 + i * 8 ≡ suc i * 8 = omega arith in
    words_at_lem n (drop 8 bs) i (omega arith) ∙ ap (λ (l : List ℕ). number (take 8 l)) (drop-drop (i * 8) 8 bs ∙ ap (λ (k : ℕ). drop k bs) e)

pub length-le_words : (ws : List ℕ) → length (le_words ws) ≡ 8 * length ws
unfolding le_words
length-le_words [] = refl
length-le_words (w ∷ ws) = rw (length-append, length-le 8 w, length-le_words ws) (omega arith)

pub le_words-snoc : (ws : List ℕ) (w : ℕ) → le_words (ws ++ (w ∷ [])) ≡ le_words ws ++ le 8 w
unfolding le_words
le_words-snoc [] w = append-nil (le 8 w)
le_words-snoc (x ∷ ws) w = ap (λ (l : List ℕ). le 8 x ++ l) (le_words-snoc ws w) ∙ sym (append_assoc (le 8 x) (le_words ws) (le 8 w))

-- bytes as std writes and reads them
le-behind : (n i x : ℕ) → bytes_low_first (suc i) n x ≡ le n (x / 256 ^ suc i)
unfolding le
le-behind zero i x = refl
le-behind (suc n) i x =
    let p = pow-suc 256 (suc i) in
    let q : 256 ^ suc i * 256 ≡ 256 ^ suc (suc i) = omega arith in
    let d : x / 256 ^ suc (suc i) ≡ x / 256 ^ suc i / 256 = ap (λ (k : ℕ). x / k) (sym q) ∙ sym (div-div-eq-div-mul x (256 ^ suc i) 256) in
    ap (λ (l : List ℕ). x / 256 ^ suc i % 256 ∷ l) (le-behind n (suc i) x ∙ ap (le n) d)

pub to_le : (n x : ℕ) → bytes_low_first 0 n x ≡ le n x
unfolding le
to_le zero x = refl
to_le (suc n) x = ap (λ (l : List ℕ). x % 256 ∷ l) (le-behind n 0 x)

module _ (bs : List ℕ) where
  whole : (n : ℕ) → length bs ≡ n → number (take n (drop 0 bs)) ≡ number bs
  whole n l = ap number (take_all n bs (omega arith))

  pub from_le_2 : length bs ≡ 2 → from_le_bytes w16 bs ≡ number bs
  from_le_2 l = omega (arith, whole 2 l, number_2 bs 0 (omega arith))

  pub from_le_4 : length bs ≡ 4 → from_le_bytes w32 bs ≡ number bs
  from_le_4 l = omega (arith, whole 4 l, number_4 bs 0 (omega arith), number_2 bs 0 (omega arith), number_2 bs 2 (omega arith))

  pub from_le_8 : length bs ≡ 8 → from_le_bytes w64 bs ≡ number bs
  from_le_8 l =
      omega (
        arith,
        whole 8 l,
        number_8 bs 0 (omega arith),
        number_4 bs 0 (omega arith),
        number_4 bs 4 (omega arith),
        number_2 bs 0 (omega arith),
        number_2 bs 2 (omega arith),
        number_2 bs 4 (omega arith),
        number_2 bs 6 (omega arith),
      )

-- word i of the words from index at on
pub word_read : (n at i : ℕ) (bs : List ℕ) {x : ℕ} → i < n → x ≡ number (part (at + i * 8) 8 bs) → x ≡ get_or (words n (drop at bs)) i 0
word_read n at i bs h e =
    e ∙ ap (λ (l : List ℕ). number (take 8 l)) (sym (drop-drop (i * 8) at bs)) ∙ sym (words_at_lem n (drop at bs) i h)

pub length-numbers : (s : Session) → length (encoded_numbers s) ≡ 16
unfolding encoded_numbers
length-numbers s = simp (length-append, length-le) refl
