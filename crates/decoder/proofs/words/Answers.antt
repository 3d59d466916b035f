use mathlib.Core.Path.{◌≡◌}
use Prim.Native.Nat.{◌+◌, ◌*◌}
use native.Mathlib.Omega.{arith}
use lib.ListN.{length, drop, length-set}
use Rattle.encoding.specs.Words.{words}
use Rattle.encoding.proofs.Laws.{length-words, word_read}
use Rattle.fips180.proofs.Filling.{fill_step, fill_done}
use Rattle.decoder.proofs.Reading.{read_8}
use Rattle.decoder.proofs.words.Goals as goal

pub loop-i-preserved : goal.loop-i-preserved
loop-i-preserved c =
    let l = c.loop-i in
    let h = l.invariant in
    let w = words 8 (drop 16 c.args.b.now) in
    let n : length w ≡ 8 = length-words 8 _ in
    let e = read_8 c.args.b.now (16 + l.i * 8) (omega arith) c.part.ensures c.from_le_bytes.ensures in
    (simp length-set h.0, fill_step w l.r {i = l.i} (omega arith) (omega arith) h.1 (word_read 8 16 l.i c.args.b.now (omega arith) e))

pub returns : goal.returns
returns c =
    let l = c.loop-i in
    let h = l.invariant in
    let w = words 8 (drop 16 c.args.b.now) in
    let n : length w ≡ 8 = length-words 8 _ in
    fill_done w l.r {i = l.i} (omega arith) (omega arith) h.1
