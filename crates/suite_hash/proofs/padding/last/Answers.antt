use Rattle.suite_hash.proofs.Tail.{last_is}
use Rattle.suite_hash.proofs.Sound.{sound, block_len}
use Rattle.std.proofs.Common.{◌∙◌, arith}
use Rattle.suite_hash.proofs.padding.last.Goals as goal

pub returns : goal.returns
returns c =
    let a = c.args in
    last_is _ (sound _) a.h.now.state a.h.now.block a.bits (omega arith) (omega arith)
    (c.block_len-b.ensures.0 ∙ block_len _) c.put.ensures.1 c.compress.ensures
