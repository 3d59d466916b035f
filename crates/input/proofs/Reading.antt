-- Laws of reading in parts: what two reads consume, and what stands at the front after the second.
use Rattle.std.proofs.Common.{◌≡◌, ℕ, ◌+◌, ◌-◌, ◌≤◌, List, ◌++◌, length, take, drop, subst, sym, ap, ◌∙◌, arith}
use Rattle.std.proofs.lemmas.List.{take-append-le, append_assoc, length-take}
use Rattle.std.proofs.Math.Seq.{take-append-add}
use Rattle.std.specs.Prelude.{Option, Some, None}
use Rattle.std.specs.Io.KnownBytes.{Consumes}
use borrow.Rule.Slice.PartMut.{put_mid}

pub consumes_both : (a b c : Option (List ℕ)) (xs ys : List ℕ) → Consumes a b xs → Consumes b c ys → Consumes a c (xs ++ ys)
consumes_both None b c xs ys p q = tt
consumes_both (Some x) None c xs ys p q = absurd p
consumes_both (Some x) (Some y) None xs ys p q = absurd q
consumes_both (Some x) (Some y) (Some z) xs ys p q = p ∙ ap (λ (l : List ℕ). xs ++ l) q ∙ sym (append_assoc xs ys z)

pub front_grows : (at n : ℕ) (xs ys : List ℕ) → at ≤ length xs → n ≤ length ys
    → take (at + n) (put_mid at (length xs - at) xs ys) ≡ take at xs ++ take n ys
front_grows at n xs ys fit few =
    let rest = drop (length xs - at) (drop at xs) in
    let l : length (take at xs) ≡ at = simp length-take (omega arith) in
    let e : take (length (take at xs) + n) (take at xs ++ (ys ++ rest)) ≡ take at xs ++ take n (ys ++ rest) = take-append-add (take at xs) (ys ++ rest) n in
    let P : ℕ → Type 0 = λ k. take (k + n) (take at xs ++ (ys ++ rest)) ≡ take at xs ++ take n (ys ++ rest) in
    subst P l e ∙ ap (λ (t : List ℕ). take at xs ++ t) (take-append-le n ys rest few)
