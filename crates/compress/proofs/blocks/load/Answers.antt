use Rattle.std.proofs.Common.{◌≤◌, ◌*◌, length, refl, ap, ◌∙◌, arith, length-set}
use Rattle.std.proofs.lemmas.List.{map-set, length-map}
use Rattle.fips180.specs.Words.{number_from}
use Rattle.fips180.specs.Padding.{words_of}
use Rattle.fips180.proofs.Words.{load_step}
use Rattle.compress.proofs.Pieces.{piece, length-piece}
use Rattle.compress.proofs.blocks.load.Goals as goal

pub loop-i-init : goal.loop-i-init
unfolding words_of
loop-i-init g c = (refl, refl)

pub loop-i-preserved : goal.loop-i-preserved
loop-i-preserved g c =
    let v = g.V.Sha2.variant in
    let w = g.met.V.Sha2.word_law in
    let l = c.loop-i in
    let b = c.args.b.now in
    let whole : 16 * v.bytes ≤ length b = omega (arith, w, g.met.V.Sha2.block_law, c.requires) in
    let p = piece b l.i v.bytes (c.BYTES.ensures ∙ w.0) (c.BYTES-in-loop-i.ensures ∙ w.0) in
    let e = c.word.ensures (ap length p ∙ length-piece b l.i v.bytes 16 (omega arith) whole) ∙ ap (number_from 0) p in
    (rw map-set (load_step v _ b (rw length-map (omega arith)) l.invariant.0 e), simp length-set l.invariant.1)
