use Rattle.hex_text.proofs.Pairs.{hex_of-next, hex_of-none, length_hex_of, overwrite-nil}
use Rattle.hex_text.specs.Hex.{hex_of}
use Rattle.buffer.specs.Buffer.{overwrite}
use Rattle.buffer.proofs.Laws.{after-fits, behind-fits}
use lib.ListN.{length}
use Prim.Native.Nat.{ℕ, ◌+◌, ◌*◌}
use native.Mathlib.Omega.{arith}
use mathlib.Core.Path.{◌≡◌, sym, ap, ◌∙◌}
use mathlib.Core.List.{List}
use Rattle.hex_text.proofs.put_hex.Goals as goal

pub loop-i-preserved : goal.loop-i-preserved
loop-i-preserved c =
    let l = c.loop-i in
    let e = hex_of-next c.args.bytes.now _ (c.args.at + l.i * 2) l.out (omega arith) (omega arith) c.hex_digit.ensures c.hex_digit-in-loop-i.ensures in
    let z : c.args.at + (l.i + 1) * 2 ≡ c.args.at + l.i * 2 + 2 = omega arith in
    (omega arith, rw z (e ∙ l.invariant.1))

pub returns : goal.returns
returns c =
    let l = c.loop-i in
    let n = length_hex_of c.args.bytes.now in
    let e : c.args.at + length c.args.bytes.now * 2 ≡ c.args.at + length (hex_of c.args.bytes.now) = omega (arith, n) in
    (e ∙ sym (behind-fits _ _ _ (omega (arith, n))), sym (overwrite-nil (c.args.at + l.i * 2) l.out) ∙ ap (λ (b : List ℕ). overwrite (c.args.at + l.i * 2) b l.out) (sym (hex_of-none c.args.bytes.now l.i c.loop-i-test.false)) ∙ l.invariant.1 ∙ sym (after-fits _ _ _ (omega (arith, n))))
