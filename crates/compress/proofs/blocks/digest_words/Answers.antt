use Rattle.std.proofs.Common.{◌≡◌, ◌<◌, ◌/◌, ◌%◌, map, get_or, refl, ◌∙◌, arith}
use Rattle.std.proofs.lemmas.List.{get_or-map}
use native.Mathlib.Nat.{div-lt_iff_lt-mul}
use Rattle.buffer.specs.Buffer.{zeros}
use Rattle.fips180.specs.Words.{bytes_of}
use Rattle.fips180.proofs.Digest.{digest-next}
use Rattle.compress.proofs.blocks.digest_words.Goals as goal

pub loop-i-init : goal.loop-i-init
unfolding zeros
loop-i-init g c = refl

pub loop-i-preserved : goal.loop-i-preserved
loop-i-preserved g c =
    let v = g.V.Sha2.variant in
    let f = g.V.Sha2.value in
    let n = g.met.V.Sha2.digest_law in
    let w = g.met.V.Sha2.word_law in
    let l = c.loop-i in
    let s = c.args.s in
    let a = c.BYTES.ensures ∙ w.0 in
    let b = c.BYTES-in-loop-i.ensures ∙ w.0 in
    let some : 0 < c.BYTES.result = omega (arith, w, c.BYTES.ensures) in
    let within : l.i / c.BYTES.result < 8 = (div-lt_iff_lt-mul some).1 (omega (arith, n.2)) in
    let at = get_or-map f s (l.i / c.BYTES.result) c.index-s-i.result 0 (omega arith) in
    let e : c.byte.result ≡ get_or (bytes_of v.bytes (get_or (map f s) (l.i / c.BYTES.result) 0)) (l.i % c.BYTES-in-loop-i.result) 0 =
    rw at c.byte.ensures in
    digest-next v _ (omega (arith, n.1)) l.invariant (rw b at (rw a at e))
