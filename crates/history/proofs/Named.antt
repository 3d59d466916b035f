-- The tests of refusal 3 are those of the places that Keys and Export name, and of the binder key.
use Prim.Native.Nat.{ℕ, zero, suc, ◌≤◌}
use mathlib.Core.Bool.{Bool, true, false, not, ◌||◌}
use mathlib.Core.Path.{◌≡◌, refl}
use native.Mathlib.Omega.{arith}
use lib.Dec.{eqb}
use Rattle.book.specs.Book.{early}
use Rattle.book.specs.Held.{early_held, handshake_held}
use Rattle.book.specs.Refusals.{keys_held, export_held}
use Rattle.history.specs.Places.{keys_place, export_place}
use Rattle.history.specs.Places.Place.{binder_key}
use Rattle.history.proofs.Held.{held_at}

or_nothing : (a : Bool) → (a || false) ≡ a
or_nothing true = refl
or_nothing false = refl

module _ (point kind ran : ℕ) where
  pub keys-held : (name : ℕ) → 1 ≤ name → name ≤ 5 → keys_held point ran name ≡ held_at (keys_place name) point kind ran
  unfolding held_at
  keys-held zero h k = absurd (omega arith)
  keys-held (suc zero) h k = or_nothing (early_held point ran)
  keys-held (suc (suc zero)) h k = or_nothing (handshake_held point)
  keys-held (suc (suc (suc zero))) h k = or_nothing (handshake_held point)
  keys-held (suc (suc (suc (suc zero)))) h k = refl
  keys-held (suc (suc (suc (suc (suc zero))))) h k = refl
  keys-held (suc (suc (suc (suc (suc (suc n)))))) h k = absurd (omega arith)

  pub export_held_lem : (name : ℕ) → 1 ≤ name → name ≤ 2 → export_held point ran name ≡ held_at (export_place name) point kind ran
  unfolding held_at
  export_held_lem zero h k = absurd (omega arith)
  export_held_lem (suc zero) h k = or_nothing (early_held point ran)
  export_held_lem (suc (suc zero)) h k = refl
  export_held_lem (suc (suc (suc n))) h k = absurd (omega arith)

  pub binder_held_lem : point ≡ early → not (eqb kind 0) ≡ held_at binder_key point kind ran
  unfolding held_at
  binder_held_lem e = rw e
