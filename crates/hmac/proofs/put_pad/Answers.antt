use Rattle.hmac.proofs.Pads.{pad_is}
use native.Mathlib.Omega.{arith}
use Rattle.hmac.proofs.put_pad.Goals as goal

pub returns : goal.returns
returns c =
    let a = c.args in
    (pad_is _ a.c a.key.now c.block_len.ensures.0 c.min-n.ensures c.zeros.ensures c.put.ensures.1 c.xor_each.ensures, omega arith)
