-- A hash value's words are words of the variant's width already.
use Prim.Native.Nat.{ℕ, ◌%◌, ◌^◌, ◌<◌}
use mathlib.Core.Path.{◌≡◌, sym}
use mathlib.Core.List.{List, [], ◌∷◌}
use native.Mathlib.Nat.{mod-mod, mod-eq_of_lt}
use native.Mathlib.Omega.{arith}
use lib.ListN.{length, get_or, drop}
use lib.Seq.{drop-cons, drop-length}
use Rattle.fips180.specs.Words.{plus}
use Rattle.fips180.specs.Variant.{Variant}
use Rattle.fips180.specs.Hash.{sums, compress}
use Rattle.fips180.specs.Rows.{cut}

pub cut-compress : (v : Variant) (s m : List ℕ) → cut v (compress v s m) ≡ compress v s m
unfolding cut compress sums plus
cut-compress v s m = simp mod-mod

pub cut-cut : (v : Variant) (s : List ℕ) → cut v (cut v s) ≡ cut v s
unfolding cut
cut-cut v s = simp mod-mod

-- the elements of eight words
pub eight : (s : List ℕ) → length s ≡ 8
    → get_or s 0 0 ∷ get_or s 1 0 ∷ get_or s 2 0 ∷ get_or s 3 0 ∷ get_or s 4 0 ∷ get_or s 5 0 ∷ get_or s 6 0 ∷ get_or s 7 0 ∷ [] ≡ s
eight s l =
    let a = drop-cons s 0 0 (omega arith) in
    let b = drop-cons s 1 0 (omega arith) in
    let c = drop-cons s 2 0 (omega arith) in
    let d = drop-cons s 3 0 (omega arith) in
    let e = drop-cons s 4 0 (omega arith) in
    let f = drop-cons s 5 0 (omega arith) in
    let g = drop-cons s 6 0 (omega arith) in
    let h = drop-cons s 7 0 (omega arith) in
    let i : drop 8 s ≡ [] = rw l at (drop-length s) in cc

-- eight words of the variant's width are as wide when they are cut
pub cut-whole : (v : Variant) (s : List ℕ) → length s ≡ 8 → ((i : ℕ) → get_or s i 0 < 2 ^ v.bits) → s ≡ cut v s
unfolding cut
cut-whole v s l h =
    let e : (i : ℕ) → get_or s i 0 % 2 ^ v.bits ≡ get_or s i 0 = λ i. mod-eq_of_lt (h i) in
    rw (e 0, e 1, e 2, e 3, e 4, e 5, e 6, e 7) (sym (eight s l))
