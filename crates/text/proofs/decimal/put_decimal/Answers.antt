use Rattle.text.proofs.Numbers.{decimal_is, put_same}
use native.Mathlib.Omega.{arith}
use mathlib.Core.Path.{◌∙◌}
use Rattle.text.proofs.decimal.put_decimal.Goals as goal

pub returns : goal.returns
returns c =
    let d = c.decimal-k.ensures in
    put_same _ _ (d.digits ∙ decimal_is _ _ d.len (omega arith)) c.put.ensures.0
    c.put.ensures.1
