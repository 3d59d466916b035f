-- A value in its place, written to the front of a lent output.
use Prim.Native.Nat.{ℕ, ◌+◌, ◌≤◌}
use mathlib.Core.List.{List}
use mathlib.Core.Path.{◌≡◌, refl, sym, ap, ◌∙◌}
use native.Mathlib.Omega.{arith}
use lib.ListN.{length, take}
use Rattle.buffer.specs.Buffer.{fronted, placed, after, behind}
use Rattle.buffer.proofs.Laws.{take-placed, length-fronted, behind-fits, after_front, Wrote, none, more}
use Rattle.suite.specs.Suite.{key_length, iv_length}
use Rattle.schedule.specs.Schedule.{write_key, write_iv, traffic_keys}
use Rattle.schedule.proofs.Laws.{length-write_key, length-write_iv}

read_back : (K : List ℕ) {h n : ℕ} {value : List ℕ} → value ≡ placed K → length K ≡ n → h ≡ n → take h value ≡ K
read_back K {h} ev el eh = ap (take h) ev ∙ take-placed h K (el ∙ sym eh)

pub value_written : (K out : List ℕ) {h count : ℕ} {value exit : List ℕ} → value ≡ placed K → length K ≡ h → h ≤ length out
    → (count ≡ behind 0 (take h value) out) × (exit ≡ after 0 (take h value) out) → (count ≡ length K) × (exit ≡ fronted K out)
value_written K out {h} ev el fits w =
    let t = read_back K ev el refl in
    let f : 0 + length K ≤ length out = omega arith in
    let g : length K ≤ length out = omega arith in (
      w.0 ∙ ap (λ (l : List ℕ). behind 0 l out) t ∙ behind-fits 0 K out f ∙ omega arith,
      w.1 ∙ ap
          (λ (l : List ℕ). after 0 l out) t ∙ after_front K out g,
    )

-- the key, and the IV right behind it
pub keys-written : (suite : ℕ) (S out : List ℕ) {k n at count : ℕ} {key iv buf exit : List ℕ} → key ≡ placed (write_key suite S)
    → iv ≡ placed (write_iv suite S)
    → k ≡ key_length suite → n ≡ iv_length suite → key_length suite + iv_length suite ≤ length out
    → (at ≡ behind 0 (take k key) out) × (buf ≡ after 0 (take k key) out) → (count ≡ behind at (take n iv) buf) ×
    (exit ≡ after at (take n iv) buf)
    → (count ≡ length (traffic_keys suite S)) × (exit ≡ fronted (traffic_keys suite S) out)
unfolding traffic_keys
keys-written suite S out {k} {n} {at} {count} {key} {iv} {buf} ek ei lk li fits p q =
    let K = write_key suite S in
    let I = write_iv suite S in
    let a : length K ≡ key_length suite = length-write_key suite S in
    let b : length I ≡ iv_length suite = length-write_iv suite S in
    let t = read_back K ek a lk in
    let u = read_back I ei b li in
    let v : Wrote out buf at K = more K (none out) (omega arith) (p.0 ∙ ap (λ (l : List ℕ). behind 0 l out) t)
    (p.1 ∙ ap (λ (l : List ℕ). after 0 l out) t) in
    let d : length buf ≡ length out = ap length v.bytes ∙ length-fronted K out (omega arith) in
    let m : at ≡ length K = v.upto in
    let w = more I v (omega arith) (q.0 ∙ ap (λ (l : List ℕ). behind at l buf) u)
    (q.1 ∙ ap (λ (l : List ℕ). after at l buf) u) in
    (w.upto, w.bytes)
