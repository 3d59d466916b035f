use Rattle.text.proofs.Numbers.{read_next, read_none, read_large, read_end, read_some, read_empty}
use native.Mathlib.Omega.{arith}
use borrow.Author.Tests.{eqb-true, eqb-false}
use mathlib.Core.Path.{sym, ◌∙◌}
use Rattle.text.proofs.decimal.get_decimal.Goals as goal

pub returns-then-is_empty : goal.returns-then-is_empty
returns-then-is_empty c = (read_empty c.args.s.now (eqb-true _ _ (sym c.is_empty.ensures ∙ c.if-is_empty.true)), tt)

pub loop-c-init : goal.loop-c-init
loop-c-init c = (omega arith, read_some c.args.s.now (eqb-false _ _ (sym c.is_empty.ensures ∙ c.if-is_empty.false)))

pub returns-in_err-value : goal.returns-in_err-value
returns-in_err-value c =
    rw (c.from_residual.ensures)
    (read_none c.args.s.now _ _ (omega arith) (sym c.in_err-value.ensures.0) ∙ c.loop-c.invariant.1, tt)

pub returns-then-n-gt-MAX : goal.returns-then-n-gt-MAX
returns-then-n-gt-MAX c =
    (read_large c.args.s.now _ _ (omega arith) (sym c.in_ok-value.ensures.0) (rw c.from.ensures at c.if-n-gt-MAX.true) ∙ c.loop-c.invariant.1, tt)

pub loop-c-preserved : goal.loop-c-preserved
loop-c-preserved c =
    rw c.from.ensures
    (omega arith, read_next c.args.s.now _ _ (omega arith) (sym c.in_ok-value.ensures.0) (omega arith) ∙ c.loop-c.invariant.1)

pub returns : goal.returns
returns c = (read_end c.args.s.now _ _ c.loop-c-test.false ∙ c.loop-c.invariant.1, c.loop-c.invariant.0)
