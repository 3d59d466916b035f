-- How many elements a slice has before the first that fails a test: `s.iter().take_while(test).count()`.
use Rattle.std.proofs.Common.{ℕ, ◌≤◌, Option, Bool, false, List, length, ◌≡◌, sym, ◌∙◌, arith}
use Rattle.std.specs.List.{prefix_len}
use Rattle.std.specs.Fn.{CalledAt}
use Rattle.std.specs.Iterator.{Drains}
use Rattle.std.specs.Iterator.Adapters.{take_while_source, take_while_callee, take_while_done, take_while_steps}
use Rattle.std.specs.declared.iter.TakeWhile.{TakeWhile}
use Rattle.std.proofs.lemmas.Iterator.{YieldsList}
use Rattle.std.proofs.lemmas.Iterator.Consumers.{YieldsList-at, count_from_yields_List}
use Rattle.std.proofs.lemmas.Iterator.Search.{YieldsList-from_take_while}
use Rattle.std.proofs.lemmas.List.Folds.{length-prefix_len}
use Rattle.std.proofs.lemmas.List.Sums.{prefix_len-le-length}
use denote.Param.Members.{Mut}
use denote.Ref.{Bor}

module _ {S F : Type 0} {steps : S → Option (Bor ℕ) → S → Type 0} {g : Mut F (Bor (Bor ℕ) × Unit {0}) Bool} where
  pub run_count : {t : TakeWhile S F} {it : S} {f : F} {s : List ℕ} {r : ℕ} (run : List ℕ → ℕ) (test : ℕ → Bool) → ((xs : List ℕ) → run xs ≡ prefix_len test xs)
      → ((xs : List (Bor ℕ)) × Drains (take_while_steps steps g) t xs × (r ≡ length xs))
      → YieldsList steps (λ y. y.now) it s → take_while_source t ≡ it → take_while_callee t ≡ f → take_while_done t ≡ false
      → ((x : Bor ℕ) (b : Bool) (q : F) → CalledAt g f x b q → (q ≡ f) × (b ≡ test x.now)) → (r ≡ run s) × (r ≤ length s)
  run_count {t} {it} {f} {s} {r} run test is ran all source callee done calls =
      let e : r ≡ prefix_len test s =
      count_from_yields_List t r ran (YieldsList-from_take_while g test (YieldsList-at source all) callee done calls) ∙ length-prefix_len test s in
      (e ∙ sym (is s), omega (arith, e, prefix_len-le-length test s))
