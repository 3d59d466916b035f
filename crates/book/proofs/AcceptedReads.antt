-- What acceptance of each call that only reads the session says, over plain numbers; and that each number is one of the table's.
use Prim.Native.Nat.{ℕ, ◌+◌, ◌*◌, ◌≤◌}
use mathlib.Core.Bool.{true, not, ◌&&◌, ◌||◌}
use mathlib.Core.List.{List}
use mathlib.Core.Path.{◌≡◌}
use native.Mathlib.Omega.{arith}
use lib.ListN.{length}
use lib.Dec.{eqb, ltb, leb}
use borrow.Author.Tests.{eqb-true, eqb-false, leb-true, ltb-false}
use Rattle.refusal.proofs.Laws.{passed, at_most, or-false, and-true, or-true, and-not, holds}
use Rattle.suite.specs.Suite.{hash_length, key_length, iv_length}
use Rattle.book.specs.Messages.{type_of}
use Rattle.book.specs.Refusals.{known_side, finishing, keys_held, export_held, length_in_force, export_range, keys_number, finished_number, check_number, binder_number, export_number}
use Rattle.book.proofs.Accepted.{Side, side_cases}

-- Keys
pub record KeysTaken (point suite ran name room : ℕ) : Type 0 where
  pub began : point ≡ 0 → ⊥
  pub not-closed : point ≡ 5 → ⊥
  pub named : 1 ≤ name
  pub known_name : name ≤ 5
  pub held : keys_held point ran name ≡ true
  pub fits : key_length suite + iv_length suite ≤ room

module _ (point suite ran name room : ℕ) where
  pub keys_small : keys_number point suite ran name room ≤ 13
  unfolding keys_number
  keys_small =
      at_most (eqb point 0 || eqb point 5) 13 1 _ (omega arith)
      (at_most (not (leb 1 name && leb name 5)) 13 2 _ (omega arith)
      (at_most (not (keys_held point ran name)) 13 3 _ (omega arith)
      (at_most (ltb room (key_length suite + iv_length suite)) 13 11 0 (omega arith) (omega arith))))

  pub keys-zero : keys_number point suite ran name room ≡ 0 → KeysTaken point suite ran name room
  unfolding keys_number
  keys-zero e =
      let a = passed (eqb point 0 || eqb point 5) 1 _ (λ i. omega arith) e in
      let o = or-false (eqb point 0) (eqb point 5) a.0 in
      let b = holds (leb 1 name && leb name 5) 2 (λ i. omega arith) a.1 in
      let h = and-true (leb 1 name) (leb name 5) b.0 in
      let c = holds (keys_held point ran name) 3 (λ i. omega arith) b.1 in
      let d = passed (ltb room (key_length suite + iv_length suite)) 11 0 (λ i. omega arith) c.1 in
      record {
        began = eqb-false point 0 o.0;
        not-closed = eqb-false point 5 o.1;
        named = leb-true 1 name h.0;
        known_name = leb-true name 5 h.1;
        held = c.0;
        fits = ltb-false room (key_length suite + iv_length suite) d.0;
      }

-- Finished, Check
pub data Finishing (point stage side : ℕ) : Type 0 where
  of_client : side ≡ 1 → point ≡ 3 → stage ≡ 3 → Finishing point stage side
  of_server : side ≡ 2 → point ≡ 2 → stage ≡ 2 → Finishing point stage side

pub record CheckTaken (point stage side : ℕ) : Type 0 where
  pub known_side_lem : Side side
  pub finishing : finishing point stage side ≡ true
  pub at : Finishing point stage side

pub finishing_cases : (point stage side : ℕ) → finishing point stage side ≡ true → Finishing point stage side
finishing_cases point stage side =
    or-true (eqb side 1 && (eqb point 3 && eqb stage 3)) _
    (λ e. let h = and-true (eqb side 1) (eqb point 3 && eqb stage 3) e in
    let k = and-true (eqb point 3) (eqb stage 3) h.1 in
    of_client (eqb-true side 1 h.0) (eqb-true point 3 k.0) (eqb-true stage 3 k.1))
    (λ e. let h = and-true (eqb side 2) (eqb point 2 && eqb stage 2) e in
    let k = and-true (eqb point 2) (eqb stage 2) h.1 in
    of_server (eqb-true side 2 h.0) (eqb-true point 2 k.0) (eqb-true stage 2 k.1))

module _ (point stage side : ℕ) where
  pub check_small : check_number point stage side ≤ 13
  unfolding check_number
  check_small =
      at_most (known_side side && not (finishing point stage side)) 13 1 _ (omega arith)
      (at_most (not (known_side side)) 13 2 0 (omega arith) (omega arith))

  pub check_zero : check_number point stage side ≡ 0 → CheckTaken point stage side
  unfolding check_number
  check_zero e =
      let a = passed (known_side side && not (finishing point stage side)) 1 _ (λ i. omega arith) e in
      let b = holds (known_side side) 2 (λ i. omega arith) a.1 in
      let f = and-not (known_side side) (finishing point stage side) b.0 a.0 in
      record { known_side_lem = side_cases side b.0; finishing = f; at = finishing_cases point stage side f }

module _ (point stage suite side room : ℕ) where
  pub finished_small : finished_number point stage suite side room ≤ 13
  unfolding finished_number
  finished_small =
      at_most (known_side side && not (finishing point stage side)) 13 1 _ (omega arith)
      (at_most (not (known_side side)) 13 2 _ (omega arith)
      (at_most (ltb room (hash_length suite)) 13 11 0 (omega arith) (omega arith)))

  pub finished-zero : finished_number point stage suite side room ≡ 0 → CheckTaken point stage side × (hash_length suite ≤ room)
  unfolding finished_number
  finished-zero e =
      let a = passed (known_side side && not (finishing point stage side)) 1 _ (λ i. omega arith) e in
      let b = holds (known_side side) 2 (λ i. omega arith) a.1 in
      let c = passed (ltb room (hash_length suite)) 11 0 (λ i. omega arith) b.1 in
      let f = and-not (known_side side) (finishing point stage side) b.0 a.0 in (
        record { known_side_lem = side_cases side b.0; finishing = f; at = finishing_cases point stage side f },
        ltb-false room
            (hash_length suite) c.0,
      )

-- Binder
pub record BinderTaken (point suite kind : ℕ) (hello : List ℕ) (room : ℕ) : Type 0 where
  pub at : point ≡ 1
  pub some : kind ≡ 0 → ⊥
  pub least : 4 ≤ length hello
  pub small : length hello ≤ 65535
  pub fits : hash_length suite ≤ room

module _ (point suite kind : ℕ) (hello : List ℕ) (room : ℕ) where
  pub binder_small : binder_number point suite kind hello room ≤ 13
  unfolding binder_number
  binder_small =
      at_most (not (eqb point 1)) 13 1 _ (omega arith)
      (at_most (eqb kind 0) 13 3 _ (omega arith)
      (at_most (not (leb 4 (length hello) && leb (length hello) 65535)) 13 7 _ (omega arith)
      (at_most (not (eqb (type_of hello) 1)) 13 8 _ (omega arith)
      (at_most (ltb room (hash_length suite)) 13 11 0 (omega arith) (omega arith)))))

  pub binder_zero : binder_number point suite kind hello room ≡ 0 → BinderTaken point suite kind hello room
  unfolding binder_number
  binder_zero e =
      let a = holds (eqb point 1) 1 (λ i. omega arith) e in
      let b = passed (eqb kind 0) 3 _ (λ i. omega arith) a.1 in
      let c = holds (leb 4 (length hello) && leb (length hello) 65535) 7 (λ i. omega arith) b.1 in
      let h = and-true (leb 4 (length hello)) (leb (length hello) 65535) c.0 in
      let d = holds (eqb (type_of hello) 1) 8 (λ i. omega arith) c.1 in
      let f = passed (ltb room (hash_length suite)) 11 0 (λ i. omega arith) d.1 in
      record {
        at = eqb-true point 1 a.0;
        some = eqb-false kind 0 b.0;
        least = leb-true 4 (length hello) h.0;
        small = leb-true (length hello) 65535 h.1;
        fits = ltb-false room (hash_length suite) f.0;
      }

-- Export
pub data ExportName (name : ℕ) : Type 0 where
  early : name ≡ 1 → ExportName name
  regular : name ≡ 2 → ExportName name

pub record ExportTaken (point suite ran name label context asked room : ℕ) : Type 0 where
  pub began : point ≡ 0 → ⊥
  pub not-closed : point ≡ 5 → ⊥
  pub known_name : ExportName name
  pub held : export_held point ran name ≡ true
  pub some_label : 1 ≤ label
  pub small_label : label ≤ 249
  pub small_context : context ≤ 65535
  pub askable : length_in_force asked ≤ 255 * hash_length suite
  pub fits : length_in_force asked ≤ room

module _ (point suite ran name label context asked room : ℕ) where
  pub export_small : export_number point suite ran name label context asked room ≤ 13
  unfolding export_number
  export_small =
      at_most (eqb point 0 || eqb point 5) 13 1 _ (omega arith)
      (at_most (not (eqb name 1 || eqb name 2)) 13 2 _ (omega arith)
      (at_most (not (export_held point ran name)) 13 3 _ (omega arith)
      (at_most (not (export_range suite label context asked)) 13 10 _ (omega arith)
      (at_most (ltb room (length_in_force asked)) 13 11 0 (omega arith) (omega arith)))))

  pub export_zero : export_number point suite ran name label context asked room ≡ 0 → ExportTaken point suite ran name label
      context asked room
  unfolding export_number
  export_zero e =
      let a = passed (eqb point 0 || eqb point 5) 1 _ (λ i. omega arith) e in
      let o = or-false (eqb point 0) (eqb point 5) a.0 in
      let b = holds (eqb name 1 || eqb name 2) 2 (λ i. omega arith) a.1 in
      let c = holds (export_held point ran name) 3 (λ i. omega arith) b.1 in
      let d = holds (export_range suite label context asked) 10 (λ i. omega arith) c.1 in
      let r = and-true (leb 1 label && leb label 249) (leb context 65535 && leb (length_in_force asked) (255 * hash_length suite))
      d.0 in
      let l = and-true (leb 1 label) (leb label 249) r.0 in
      let k = and-true (leb context 65535) (leb (length_in_force asked) (255 * hash_length suite)) r.1 in
      let f = passed (ltb room (length_in_force asked)) 11 0 (λ i. omega arith) d.1 in
      record {
        began = eqb-false point 0 o.0;
        not-closed = eqb-false point 5 o.1;
        known_name = or-true (eqb name 1) (eqb name 2) (λ t. early (eqb-true name 1 t)) (λ t. regular (eqb-true name 2 t))
            b.0;
        held = c.0;
        some_label = leb-true 1 label l.0;
        small_label = leb-true label 249 l.1;
        small_context = leb-true context 65535 k.0;
        askable = leb-true (length_in_force asked) (255 * hash_length suite) k.1;
        fits = ltb-false room (length_in_force asked) f.0;
      }
