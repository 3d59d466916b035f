use Rattle.std.proofs.Common.{◌≡◌, ◌∙◌, List, ℕ, get_or, arith}
use Rattle.fips180.specs.Variant.{sha256}
use Rattle.fips180.proofs.Words.{be_bytes}
use Rattle.sha256.proofs.Sha256Sha2.byte.Goals as goal

-- the byte at an index, in equal lists at equal indices
get_is : {l m : List ℕ} {i j x : ℕ} → x ≡ get_or l i 0 → l ≡ m → i ≡ j → x ≡ get_or m j 0
get_is e f h = cc

pub returns-in-Some : goal.returns-in-Some
unfolding sha256
returns-in-Some c =
    let b = c.to_be_bytes.ensures ∙ be_bytes 4 c.args.x in
    get_is (c.in-Some.ensures.lookup.4 (omega arith) 0) b (omega arith)

pub returns-in-None : goal.returns-in-None
unfolding sha256
returns-in-None c =
    let b = c.to_be_bytes.ensures ∙ be_bytes 4 c.args.x in
    get_is (c.in-None.ensures.lookup.4 (omega arith) 0) b (omega arith)
