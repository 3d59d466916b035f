use Rattle.script_line.proofs.Fields.{hex_next, hex_none, hex_end, hex_empty, hex_long, hex_some, power_next, power_small}
use mathlib.Core.Path.{sym, ◌∙◌}
use native.Mathlib.Omega.{arith}
use borrow.Author.Tests.{eqb-true, eqb-false}
use Rattle.script_line.proofs.number.hex_number.Goals as goal
use Rattle.script_line.proofs.number.hex_number.Goals.{then-is_empty-via-then-is_empty, then-is_empty-via-else-is_empty+then-s-gt4}

pub returns-then-is_empty : goal.returns-then-is_empty
returns-then-is_empty c =
    elim c.then-is_empty.branch [
      | then-is_empty-via-then-is_empty w ↦ hex_empty c.args.s.now (eqb-true _ _ (sym c.is_empty.ensures ∙ w.if-is_empty.true))
      | then-is_empty-via-else-is_empty+then-s-gt4 w ↦ hex_long c.args.s.now w.if-s-gt4.true
    ]

pub loop-c-init : goal.loop-c-init
loop-c-init c =
    record {
      few = omega arith;
      small = omega arith;
      read = hex_some c.args.s.now (eqb-false _ _ (sym c.is_empty.ensures ∙ c.if-is_empty.false)) (omega arith);
    }

pub overflow_mul-n : goal.overflow_mul-n
overflow_mul-n c = omega (arith, power_small c.loop-c.c-index c.loop-c.n (omega arith) c.loop-c.invariant.small)

pub returns-in_err-hex_value : goal.returns-in_err-hex_value
returns-in_err-hex_value c =
    rw (c.from_residual.ensures)
    (hex_none c.args.s.now _ _ (omega arith) (sym c.in_err-hex_value.ensures.0) ∙ c.loop-c.invariant.read)

pub loop-c-preserved : goal.loop-c-preserved
loop-c-preserved c =
    let l = c.loop-c in
    let h = c.in_ok-hex_value.ensures in
    rw (c.from.ensures)
    (record {
      few = l.invariant.few;
      small = power_next l.c-index l.n _ l.invariant.small h.1;
      read = hex_next c.args.s.now _ _ (omega arith) (sym h.0) ∙ l.invariant.read;
    })

pub returns : goal.returns
returns c = hex_end c.args.s.now _ _ c.loop-c-test.false ∙ c.loop-c.invariant.read
