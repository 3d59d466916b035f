use Rattle.std.proofs.Common.{◌∙◌, ap, arith}
use Rattle.std.specs.Int.{from_be_bytes, w32}
use Rattle.fips180.specs.Variant.{sha256}
use Rattle.fips180.proofs.Words.{word4}
use lib.Seq.{take_all}
use Rattle.sha256.proofs.Sha256Sha2.word.Goals as goal

pub returns-in-Some : goal.returns-in-Some
unfolding sha256
returns-in-Some c l =
    let e = c.in-Some.ensures.cases.same ∙ take_all 4 c.args.b.now (omega arith) in
    omega (arith, ap (from_be_bytes w32) e ∙ word4 c.args.b.now l)

pub returns-in-None : goal.returns-in-None
unfolding sha256
returns-in-None c l = let short = c.in-None.ensures.cases in absurd (omega (arith, short, l))
