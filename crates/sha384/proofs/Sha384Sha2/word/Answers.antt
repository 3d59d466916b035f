use Rattle.std.proofs.Common.{◌∙◌, ap, arith}
use Rattle.std.specs.Int.{from_be_bytes, w64}
use Rattle.fips180.specs.Variant.{sha384}
use Rattle.fips180.proofs.Words.{word8}
use lib.Seq.{take_all}
use Rattle.sha384.proofs.Sha384Sha2.word.Goals as goal

pub returns-in-Some : goal.returns-in-Some
unfolding sha384
returns-in-Some c l =
    let e = c.in-Some.ensures.cases.same ∙ take_all 8 c.args.b.now (omega arith) in
    omega (arith, ap (from_be_bytes w64) e ∙ word8 c.args.b.now l)

pub returns-in-None : goal.returns-in-None
unfolding sha384
returns-in-None c l = let short = c.in-None.ensures.cases in absurd (omega (arith, short, l))
