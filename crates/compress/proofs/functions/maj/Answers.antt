use Rattle.fips180.specs.Words.{maj}
use Rattle.compress.proofs.functions.maj.Goals as goal

pub returns : goal.returns
unfolding maj
returns g c =
    let t = g.met.V.Sha2 in
    let a = (t.and_law _ _).1 _ c.bitand.ensures in
    let b = (t.and_law _ _).1 _ c.bitand-2.ensures in
    let d = (t.and_law _ _).1 _ c.bitand-3.ensures in
    let x = (t.xor_law _ _).1 _ c.bitxor.ensures in
    let y = (t.xor_law _ _).1 _ c.bitxor-2.ensures in
    cc
