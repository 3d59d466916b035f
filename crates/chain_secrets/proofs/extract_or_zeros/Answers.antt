use Rattle.std.proofs.Common.{sym, ◌∙◌}
use Rattle.hkdf.specs.Refusals.{max_message}
use Rattle.schedule.proofs.Derivations.{absent_is, present_is}
use borrow.Author.Tests.{eqb-true, eqb-false}
use native.Mathlib.Omega.{arith}
use Rattle.chain_secrets.proofs.extract_or_zeros.Goals as goal

pub returns-then-is_empty : goal.returns-then-is_empty
returns-then-is_empty c =
    absent_is _ _ c.args.input.now
    (eqb-true _ 0 (sym c.is_empty.ensures ∙ c.if-is_empty.true)) c.hash_len-h.ensures.0
    c.zeros-zeros.ensures c.extract_value.ensures

pub returns : goal.returns
returns c =
    present_is _ max_message _ c.args.input.now (omega arith)
    (eqb-false _ 0 (sym c.is_empty.ensures ∙ c.if-is_empty.false)) c.hash_len-h.ensures.0 c.extract_value-2.ensures
