-- The comparison that reads every byte: no bit differs exactly if the lists are the same.
use Prim.Native.Nat.{ℕ, suc}
use mathlib.Core.Bool.{Bool, true, false, ◌&&◌}
use mathlib.Core.List.{List, [], ◌∷◌}
use mathlib.Core.Path.{◌≡◌, refl, sym, ap, ◌∙◌}
use native.Mathlib.Omega.{arith}
use lib.Bits.{bit_or, bit_xor}
use lib.Dec.{eqb}
use lib.ListN.{length}
use Rattle.std.specs.List.{fold, zip}
use Rattle.buffer.specs.Buffer.{same}
use Rattle.book.proofs.Bytes.{or-zero, xor-zero, and_assoc, and_yes}

and_no : (x : Bool) → false ≡ (x && false)
and_no true = refl
and_no false = refl

-- lists of two lengths
pub other_length : (xs ys : List ℕ) → (length xs ≡ length ys → ⊥) → false ≡ same xs ys
unfolding same
other_length [] [] h = absurd (h refl)
other_length [] (y ∷ ys) h = refl
other_length (x ∷ xs) [] h = refl
other_length (x ∷ xs) (y ∷ ys) h = and_no (eqb x y) ∙ ap (λ (t : Bool). eqb x y && t) (other_length xs ys (λ e. h (ap suc e)))

-- one pair of bytes more
abbrev pub differing : ℕ → ℕ × ℕ → ℕ
differing bits p = bit_or bits (bit_xor p.0 p.1)

pub same_fold : (bits : ℕ) (xs ys : List ℕ) → length xs ≡ length ys → eqb (fold differing bits (zip xs ys)) 0 ≡ (eqb bits 0 && same xs ys)
unfolding same
same_fold bits [] [] l = sym (and_yes (eqb bits 0))
same_fold bits [] (y ∷ ys) l = absurd (omega arith)
same_fold bits (x ∷ xs) [] l = absurd (omega arith)
same_fold bits (x ∷ xs) (y ∷ ys) l =
    same_fold (bit_or bits (bit_xor x y)) xs ys (omega arith)
    ∙ rw (or-zero bits (bit_xor x y), xor-zero x y, and_assoc (eqb bits 0) (eqb x y) (same xs ys)) refl
