use Rattle.fips180.specs.Words.{ch}
use Rattle.compress.proofs.functions.ch.Goals as goal

pub returns : goal.returns
unfolding ch
returns g c =
    let t = g.met.V.Sha2 in
    let a = (t.and_law _ _).1 _ c.bitand.ensures in
    let n = (t.not_law _).1 _ c.not.ensures in
    let b = (t.and_law _ _).1 _ c.bitand-2.ensures in
    let x = (t.xor_law _ _).1 _ c.bitxor.ensures in
    cc
