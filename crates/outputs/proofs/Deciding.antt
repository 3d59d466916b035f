-- The decisions of the calls are the book's.
use Prim.Native.Nat.{ℕ}
use mathlib.Core.List.{List}
use mathlib.Core.Path.{◌≡◌, ap, ◌∙◌}
use lib.ListN.{length}
use Rattle.session.specs.declared.Session.{Session}
use Rattle.book.specs.Call.Call.{Keys, Finished, Check, Binder, Export}
use Rattle.book.specs.Book.{Book}
use Rattle.book.specs.Refusals.{number, keys_number, finished_number, check_number, binder_number, export_number, Reached}
use Rattle.session.specs.Session.{session_of}

module _ (s : Session) {n : ℕ} where
  pub keys_is : (name : ℕ) (out : List ℕ) → n ≡ keys_number s.point s.suite s.early name (length out) → (b : Book) →
      Reached b → s ≡ session_of b
      → n ≡ number b (Keys name out)
  unfolding number session_of
  keys_is name out en b r e = en ∙ ap (λ (x : Session). keys_number x.point x.suite x.early name (length out)) e

  pub finished_is : (side : ℕ) (out : List ℕ) → n ≡ finished_number s.point s.stage s.suite side (length out) →
      (b : Book) → Reached b → s ≡ session_of b
      → n ≡ number b (Finished side out)
  unfolding number session_of
  finished_is side out en b r e = en ∙ ap (λ (x : Session). finished_number x.point x.stage x.suite side (length out)) e

  pub check_is : (side : ℕ) (received : List ℕ) → n ≡ check_number s.point s.stage side → (b : Book) → Reached b → s ≡
      session_of b
      → n ≡ number b (Check side received)
  unfolding number session_of
  check_is side received en b r e = en ∙ ap (λ (x : Session). check_number x.point x.stage side) e

  pub binder_is : (hello out : List ℕ) → n ≡ binder_number s.point s.suite s.kind hello (length out) → (b : Book) →
      Reached b → s ≡ session_of b
      → n ≡ number b (Binder hello out)
  unfolding number session_of
  binder_is hello out en b r e = en ∙ ap (λ (x : Session). binder_number x.point x.suite x.kind hello (length out)) e

  pub export_is : (name : ℕ) (l context : List ℕ) (asked : ℕ) (out : List ℕ)
      → n ≡ export_number s.point s.suite s.early name (length l) (length context) asked (length out) → (b : Book) →
      Reached b → s ≡ session_of b
      → n ≡ number b (Export name l context asked out)
  unfolding number session_of
  export_is name l context asked out en b r e =
      en ∙ ap (λ (x : Session). export_number x.point x.suite x.early name (length l) (length context) asked
      (length out)) e
