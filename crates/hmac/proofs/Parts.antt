-- A message absorbed in two runs of its parts.
use Rattle.std.proofs.Common.{◌≡◌, ℕ, ◌-◌, List, length, take, drop, sym, ap, ◌∙◌, arith, length-drop, take_all}
use Rattle.std.specs.List.{flat_map}
use Rattle.std.proofs.lemmas.List.{take-append-drop}
use Rattle.std.proofs.lemmas.List.Concat.{flat_map-append}
use Rattle.fips180.specs.Variant.{Variant}
use Rattle.suite_hash.specs.declared.running.Running.{Running}
use Rattle.suite_hash.specs.Running.{absorbed}
use Rattle.suite_hash.proofs.Absorbing.{absorbed-append}

pub absorbed-runs : {X : Type 0} (v : Variant) (r : Running) (f : X → List ℕ) (xs : List X) (n : ℕ)
    → absorbed v (absorbed v r (flat_map f (take n xs))) (flat_map f (take (length xs - n) (drop n xs))) ≡ absorbed v r (flat_map f xs)
absorbed-runs v r f xs n =
    let t : take (length xs - n) (drop n xs) ≡ drop n xs = take_all (length xs - n) (drop n xs) (omega (arith, length-drop n xs)) in
    rw t
    (sym (absorbed-append v r (flat_map f (take n xs)) (flat_map f (drop n xs)))
    ∙ ap (absorbed v r) (sym (flat_map-append f (take n xs) (drop n xs)) ∙ ap (flat_map f) (take-append-drop n xs)))

pub ruleset runs = (absorbed-runs)
