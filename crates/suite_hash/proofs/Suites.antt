-- The running hash by suite: what the layers above build on.
use Rattle.std.proofs.Common.{◌≡◌, ℕ, ◌+◌, ◌*◌, ◌/◌, ◌%◌, ◌^◌, ◌<◌, List, [], ◌++◌, length, take, sym, refl, ap, ◌∙◌, one-mul, arith, take_all}
use native.Mathlib.Nat.{zero-mod, div_self}
use Rattle.buffer.specs.Buffer.{zeros, placed}
use Rattle.suite.specs.Suite.{block_length}
use Rattle.fips180.specs.Rows.{folded}
use Rattle.suite_hash.specs.declared.running.Running.{Running}
use Rattle.suite_hash.specs.Variants.{variant_of}
use Rattle.suite_hash.specs.Running.{run, start, absorbed, finished, running_of}
use Rattle.suite_hash.specs.Hash.{hash}
use Rattle.suite_hash.proofs.Sound.{sound, block_len, positive}
use Rattle.suite_hash.proofs.Absorbing.{absorbed-append, blocks-absorbed}
use Rattle.suite_hash.proofs.Message.{running_start, running_after, running_absorbed, running_finished}

-- absorbing part after part
pub ruleset parts = (absorbed-append)

pub started : (suite : ℕ) {r : Running} → r ≡ start (variant_of suite) → r ≡ running_of (variant_of suite) []
started suite e = e ∙ running_start (variant_of suite) (sound suite)

pub more : (suite : ℕ) (m x : List ℕ) {h r : Running} → length m + length x < 2 ^ 61 → h ≡ running_of (variant_of suite) m
    → r ≡ absorbed (variant_of suite) h x → r ≡ running_of (variant_of suite) (m ++ x)
more suite m x small eh er =
    er ∙ ap (λ (h : Running). absorbed (variant_of suite) h x) eh ∙ running_absorbed (variant_of suite) (sound suite) m x (omega arith)

pub digested : (suite : ℕ) (m : List ℕ) {h : Running} {d : List ℕ} → length m < 2 ^ 61 → h ≡ running_of (variant_of suite) m
    → d ≡ finished (variant_of suite) h → d ≡ placed (hash suite m)
unfolding hash
digested suite m small eh ed = ed ∙ ap (finished (variant_of suite)) eh ∙ running_finished (variant_of suite) (sound suite) m small

-- after one block: its hash value, nothing held, and a block's bytes counted
one_block : (suite : ℕ) (p : List ℕ) → length p ≡ block_length suite
    → run (folded (variant_of suite) (variant_of suite).H0 p 1) (zeros 128) (block_length suite) ≡ running_of (variant_of suite) p
unfolding start
one_block suite p long =
    let v = variant_of suite in
    let ok = sound suite in
    let b = block_len suite in
    let w = ok.within in
    let m : 1 * v.block ≡ v.block = one-mul v.block in
    let c : (0 + v.block) % 2 ^ 64 ≡ block_length suite = omega arith in
    let t : take v.block p ≡ p = take_all v.block p (omega arith) in
    let a = blocks-absorbed v ok v.H0 p 0 (omega arith) (zero-mod v.block) 1 (omega arith) in
    sym (rw (m, c, t) at a) ∙ running_after v ok p (omega arith)

pub block_held : (suite : ℕ) (p : List ℕ) → length p ≡ block_length suite
    → run (running_of (variant_of suite) p).state (zeros 128) (block_length suite) ≡ running_of (variant_of suite) p
block_held suite p long =
    let e = one_block suite p long in
    ap (λ (r : Running). run r.state (zeros 128) (block_length suite)) (sym e) ∙ e

pub block-folded : (suite : ℕ) (p : List ℕ) {s y : List ℕ} → length p ≡ block_length suite → s ≡ (variant_of suite).H0
    → y ≡ folded (variant_of suite) s p (length p / (variant_of suite).block) → y ≡ (running_of (variant_of suite) p).state
block-folded suite p long es ey =
    let v = variant_of suite in
    let q : length p / v.block ≡ 1 = ap (λ (n : ℕ). n / v.block) (long ∙ block_len suite) ∙ div_self (positive v (sound suite)) in
    ey ∙ rw (q, es) (ap (λ (r : Running). r.state) (one_block suite p long))

-- it counts the bytes
pub counted : (suite : ℕ) (m : List ℕ) → (running_of (variant_of suite) m).count ≡ length m
unfolding running_of
counted suite m = refl
