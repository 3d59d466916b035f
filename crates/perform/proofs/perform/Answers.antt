use native.Mathlib.Omega.{arith}
use Rattle.perform.proofs.Performing.{start, whole_tells, turned, ended, finished}
use Rattle.perform.proofs.perform.Goals as goal

pub loop-at-init : goal.loop-at-init
loop-at-init c = start _ _ _ c.fresh-s.ensures

pub shape_of-lent-then-not-is_whole : goal.shape_of-lent-then-not-is_whole
shape_of-lent-then-not-is_whole c = c.loop-at.invariant.same

pub returns-then-not-is_whole : goal.returns-then-not-is_whole
returns-then-not-is_whole c = ended _ _ _ _ _ _ _ c.loop-at.invariant c.read_header-h.ensures
    c.is_whole.ensures c.if-not-is_whole.true

pub overflow_add-start : goal.overflow_add-start
overflow_add-start c = omega (arith, whole_tells _ _ _ _ _ c.is_whole.ensures c.if-not-is_whole.false)

pub overflow_add-middle : goal.overflow_add-middle
overflow_add-middle c = omega (arith, whole_tells _ _ _ _ _ c.is_whole.ensures c.if-not-is_whole.false)

pub overflow_add-end : goal.overflow_add-end
overflow_add-end c = omega (arith, whole_tells _ _ _ _ _ c.is_whole.ensures c.if-not-is_whole.false)

pub overflow_add-filled : goal.overflow_add-filled
overflow_add-filled c = omega (
  arith,
  whole_tells _ _ _ _ _ c.is_whole.ensures
      c.if-not-is_whole.false,
)

pub slice_bounds-perform_one-end : goal.slice_bounds-perform_one-end
slice_bounds-perform_one-end c = omega (
  arith,
  whole_tells _ _ _ _ _ c.is_whole.ensures
      c.if-not-is_whole.false,
)

pub loop-at-smaller : goal.loop-at-smaller
loop-at-smaller c = omega (
  arith,
  whole_tells _ _ _ _ _
      c.is_whole.ensures
      c.if-not-is_whole.false,
)

pub loop-at-preserved : goal.loop-at-preserved
loop-at-preserved c = turned _ _ _ _ _ _ _ _ c.perform_one-next.new.out
    c.loop-at.invariant
    c.read_header-h.ensures
    c.is_whole.ensures
    c.if-not-is_whole.false
    c.perform_one-next.ensures c.perform_one-next.auto.out

pub shape_of-lent : goal.shape_of-lent
shape_of-lent c = c.loop-at.invariant.same

pub returns : goal.returns
returns c = finished _ _ _ _ _ _ c.loop-at.invariant c.loop-at-test.false

pub slice_bounds-perform_one-end-in-loop-at : goal.slice_bounds-perform_one-end-in-loop-at
slice_bounds-perform_one-end-in-loop-at c = omega (arith, whole_tells _ _ _ _ _ c.is_whole.ensures c.if-not-is_whole.false)

pub slice_bounds-perform_one-end-in-loop-at-2 : goal.slice_bounds-perform_one-end-in-loop-at-2
slice_bounds-perform_one-end-in-loop-at-2 c = omega (arith, whole_tells _ _ _ _ _ c.is_whole.ensures c.if-not-is_whole.false)
