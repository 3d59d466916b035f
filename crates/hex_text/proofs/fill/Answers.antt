use Rattle.hex_text.proofs.Pairs.{overwrite-nil, overwrite_front, high_is_digit, low_is_digit, rest_digits, unhex-next, unhex-few}
use Rattle.buffer.specs.Buffer.{overwrite}
use Rattle.std.specs.Iterator.Adapters.{enumerate_source, enumerate_count}
use Rattle.std.specs.Slice.Iter.{chunks_exact_rest}
use native.Mathlib.Omega.{arith}
use lib.ListN.{length, length-append}
use mathlib.Core.Path.{◌≡◌, sym, ap, ◌∙◌}
use mathlib.Core.List.{List}
use Prim.Native.Nat.{ℕ}
use Rattle.hex_text.proofs.fill.Goals as goal

pub loop-i-init : goal.loop-i-init
loop-i-init c =
    let start : c.into_iter-i-iterator.result ≡ c.enumerate-i-items.result = c.into_iter-i-iterator.ensures.into_iter_gives in
    rw (start, c.enumerate-i-items.ensures.source, c.enumerate-i-items.ensures.count, c.chunks_exact.ensures.rest)
    (record {
      pairs = c.chunks_exact.ensures.size;
      digits = c.requires.0;
      room = omega arith;
      bytes = overwrite_front _ _;
    })

pub unwrap-high-requires : goal.unwrap-high-requires
unwrap-high-requires c =
    let step = c.in-Some.ensures.steps.0.1 in
    rw (c.hex_value.ensures.0) (high_is_digit _ _ _ step.0 (step.1 ∙ c.loop-i.invariant.pairs) c.loop-i.invariant.digits)

pub unwrap-low-requires : goal.unwrap-low-requires
unwrap-low-requires c =
    let step = c.in-Some.ensures.steps.0.1 in
    rw (c.hex_value-in-loop-i.ensures.0) (low_is_digit _ _ _ step.0 (step.1 ∙ c.loop-i.invariant.pairs) c.loop-i.invariant.digits)

pub loop-i-preserved : goal.loop-i-preserved
loop-i-preserved c =
    let h = c.in-Some.ensures.steps in
    let l = c.loop-i in
    let size = h.0.1.1 ∙ l.invariant.pairs in
    let rest = ap length h.0.1.0 ∙ length-append c.in-Some.pair.now _ in
    rw (h.1, h.2)
    (record {
      pairs = h.0.0 ∙ l.invariant.pairs;
      digits = rest_digits _ _ _ h.0.1.0 size l.invariant.digits;
      room = omega (arith, rest, size, l.invariant.room);
      bytes = unhex-next _ _ _ h.0.1.0 size _ l.out (omega (arith, rest, size, l.invariant.room)) (sym c.hex_value.ensures.0 ∙ c.unwrap-high.ensures) (sym c.hex_value-in-loop-i.ensures.0 ∙ c.unwrap-low.ensures) ∙ l.invariant.bytes;
    })

pub returns : goal.returns
returns c =
    let h = c.in-None.ensures.steps in
    let few = unhex-few (chunks_exact_rest (enumerate_source c.loop-i.i-iterator)) (omega (arith, h.0.1.0, c.loop-i.invariant.pairs)) in
    sym (overwrite-nil _ c.loop-i.out) ∙ ap (λ (b : List ℕ). overwrite (enumerate_count c.loop-i.i-iterator) b c.loop-i.out) (sym few) ∙ c.loop-i.invariant.bytes
