use Rattle.hkdf.proofs.Filling.{starts_within, ends_within, next_place, start, start-bytes, turn, turn-bytes, done}
use Rattle.hkdf.proofs.Labels.{block_under}
use Rattle.hkdf.proofs.Values.{some_hash}
use Rattle.std.proofs.Common.{◌≡◌, ◌+◌, ◌*◌, ◌<◌, ◌≤◌, min, length, take, zero-mul, arith, length-take}
use Rattle.std.specs.List.{flat_map}
use Rattle.hkdf.proofs.expand.fill.Goals as goal

pub loop-i-init : goal.loop-i-init
loop-i-init c =
    let p = c.requires in
    let z : min (0 * c.hash_len-h.result) c.args.asked ≡ 0 = omega (arith, zero-mul c.hash_len-h.result) in
    (rw z (start _ _ _ _ c.hash_len-h.ensures.0 c.zeros-t.ensures), λ secret ek. rw z (start-bytes _ _ _ _ c.zeros-t.ensures), p.0, p.1, p.2)

pub loop-i-preserved : goal.loop-i-preserved
loop-i-preserved c =
    let a = c.args in
    let l = c.loop-i in
    let i = l.invariant in
    let h = c.hash_len-h.result in
    let some = some_hash a.suite in
    let n = c.min-n.result in
    let p = take l.size l.t in
    let info = flat_map (λ part. part.now) a.info.now in
    let w : length p ≤ 48 = simp length-take (omega (arith, i.0.small, i.0.wide)) in
    let y = c.next_block-t in
    let wide : length y.result ≡ 48 = omega arith in
    let less = c.min-n.ensures in
    let put = c.put.ensures.1 in
    let lt : l.i * h < a.asked = starts_within h a.asked l.i (omega (arith, c.hash_len-h.ensures.0)) (omega arith) c.loop-i-test.true in
    let e : min (l.i * h) a.asked ≡ l.i * h = omega arith in
    let g : l.i * h + n ≡ min ((l.i + 1) * h) a.asked = next_place h a.asked l.i n lt less in
    let f = rw e at i.0 in
    (rw g at (turn _ _ _ _ _ _ _ _ _ f _ _ _ i.4 lt less wide put), λ secret ek. rw g at (turn-bytes _ _ _ _ _ _ _ _ _ _ _ f (rw e at (i.1 secret ek)) _ _ _ i.4 lt less (block_under a.suite secret p info (l.i + 1) w i.2 ek y.ensures) put), i.2, i.3, i.4)

pub returns : goal.returns
returns c = λ secret ek.
    let l = c.loop-i in
    let i = l.invariant in
    let h = c.hash_len-h.result in
    let some = some_hash c.args.suite in
    let t : c.args.asked ≤ l.i * h = ends_within h c.args.asked l.i (omega (arith, c.hash_len-h.ensures.0)) (omega arith) c.loop-i-test.false in
    done _ _ _ _ _ _ _ _ _ _ _ i.0 (i.1 secret ek) (omega arith)
