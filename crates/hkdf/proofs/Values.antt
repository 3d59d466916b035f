-- Lengths of the values.
use Prim.Native.Nat.{ℕ, zero, suc, ◌+◌, ◌-◌, ◌*◌, ◌≤◌, ◌<◌}
use mathlib.Core.Path.{◌≡◌, ◌∙◌}
use mathlib.Core.List.{List}
use native.Mathlib.Omega.{arith}
use native.Mathlib.Nat.{suc-mul, mod-lt, div-add-mod'}
use lib.ListN.{length, length-append}
use lib.Seq.{length-take-le}
use Rattle.suite.specs.declared.Suite.{Suite}
use Rattle.suite.specs.Suite.{hash_length}
use Rattle.suite.proofs.Laws.{every}
use Rattle.hmac.proofs.Prepared.{length-hmac}
use Rattle.hkdf.specs.Rfc5869.{blocks_for, T, Ts, expand}

-- a hash has some bytes
record Some (s : Suite) : Type 0 where
  pub some : 0 < s.hash_len

pub some_hash : (suite : ℕ) → 0 < hash_length suite
some_hash suite =
    (every Some (record { some = omega arith }) (record { some = omega arith }) (record { some = omega arith })
    (record { some = omega arith }) (record { some = omega arith }) suite).some

-- the blocks of an expansion cover what is asked, with less than one block too many: at least one block for any byte
pub blocks_cover : (h n : ℕ) → 0 < h → (n ≤ blocks_for h n * h) × (blocks_for h n * h < n + h)
unfolding blocks_for
blocks_cover h n some =
    let m = mod-lt (n + (h - 1)) some in
    let d = div-add-mod' (n + (h - 1)) h in
    (omega arith, omega arith)

pub length-T : (suite : ℕ) (prk info : List ℕ) (i : ℕ) → length (T suite prk info (suc i)) ≡ hash_length suite
unfolding T
length-T suite prk info i = length-hmac suite prk _

pub length-Ts : (suite : ℕ) (prk info : List ℕ) (n : ℕ) → length (Ts suite prk info n) ≡ n * hash_length suite
unfolding Ts
length-Ts suite prk info zero = omega arith
length-Ts suite prk info (suc n) =
    length-append (Ts suite prk info n) (T suite prk info (suc n))
    ∙ omega (arith, length-Ts suite prk info n, length-T suite prk info n, suc-mul n (hash_length suite))

pub length-expand : (suite : ℕ) (prk info : List ℕ) (asked : ℕ) → length (expand suite prk info asked) ≡ asked
unfolding expand
length-expand suite prk info asked =
    let c = (blocks_cover (hash_length suite) asked (some_hash suite)).0 in
    let l = length-Ts suite prk info (blocks_for (hash_length suite) asked) in
    length-take-le asked (Ts suite prk info (blocks_for (hash_length suite) asked)) (omega arith)
