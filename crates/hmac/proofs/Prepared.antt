-- Laws of a prepared key: what the code makes of a key's own is HMAC.
use Prim.Native.Nat.{ℕ, ◌+◌, ◌≤◌}
use mathlib.Core.Path.{◌≡◌, refl, ap, ◌∙◌}
use mathlib.Core.List.{List, ◌++◌}
use native.Mathlib.Omega.{arith}
use lib.ListN.{length, take, length-append}
use Rattle.buffer.specs.Buffer.{placed}
use Rattle.buffer.proofs.Laws.{take-placed}
use Rattle.suite.specs.Suite.{hash_length, block_length}
use Rattle.suite.proofs.Laws.{bounded}
use Rattle.suite_hash.specs.Variants.{variant_of}
use Rattle.suite_hash.specs.Running.{absorbed, finished, running_of}
use Rattle.suite_hash.specs.Hash.{hash}
use Rattle.suite_hash.proofs.Suites.{more, digested, block_held}
use Rattle.suite_hash.proofs.Whole.{length-hash}
use Rattle.hmac.specs.declared.Keyed.{Keyed}
use Rattle.hmac.specs.Rfc2104.{ipad, opad, hmac}
use Rattle.hmac.specs.Keyed.{keyed_of, after_pad, closed, mac_of}
use Rattle.hmac.proofs.Pads.{length-ipad, length-opad}

pub length-hmac : (suite : ℕ) (key text : List ℕ) → length (hmac suite key text) ≡ hash_length suite
unfolding hmac
length-hmac suite key text = length-hash suite _

pub mac_is : (suite : ℕ) (key text : List ℕ) → length text ≤ 2097152 → mac_of suite (keyed_of suite key) text ≡ placed (hmac suite key text)
unfolding hmac keyed_of mac_of closed
mac_is suite key text small =
    let v = variant_of suite in
    let w = (bounded suite).block in
    let wh = (bounded suite).hash in
    let i = ipad suite key in
    let p = opad suite key in
    let li : length i ≡ block_length suite = length-ipad suite key in
    let lp : length p ≡ block_length suite = length-opad suite key in
    let lz : length (i ++ text) ≡ block_length suite + length text = length-append i text ∙ omega arith in
    let d = hash suite (i ++ text) in
    let ld : length d ≡ hash_length suite = length-hash suite (i ++ text) in
    let lo : length (p ++ d) ≡ block_length suite + hash_length suite = length-append p d ∙ omega arith in
    let ri = after_pad suite (running_of v i).state in
    let rp = after_pad suite (running_of v p).state in
    let z : absorbed v ri text ≡ running_of v (i ++ text) = more suite i text (omega arith) (block_held suite i li) refl in
    let e : finished v (absorbed v ri text) ≡ placed d = digested suite (i ++ text) (omega arith) z refl in
    let t : take (hash_length suite) (finished v (absorbed v ri text)) ≡ d = ap (take (hash_length suite)) e ∙ take-placed (hash_length suite) d ld in
    let o : absorbed v rp d ≡ running_of v (p ++ d) = more suite p d (omega arith) (block_held suite p lp) refl in
    rw t (digested suite (p ++ d) (omega arith) o refl)

pub mac_under : (suite : ℕ) (key a b c : List ℕ) {k : Keyed} {r : List ℕ} → length a + (length b + length c) ≤ 2097152
    → k ≡ keyed_of suite key → r ≡ mac_of suite k (a ++ (b ++ c)) → r ≡ placed (hmac suite key (a ++ (b ++ c)))
mac_under suite key a b c small ek er =
    let l : length (a ++ (b ++ c)) ≡ length a + (length b + length c) = simp length-append refl in
    er ∙ ap (λ (j : Keyed). mac_of suite j (a ++ (b ++ c))) ek ∙ mac_is suite key (a ++ (b ++ c)) (omega arith)
