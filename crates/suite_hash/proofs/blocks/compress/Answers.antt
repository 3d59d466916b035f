use Rattle.suite_hash.proofs.Turns.{compress_is}
use Rattle.suite_hash.proofs.Sound.{sound, block_len}
use Rattle.std.proofs.Common.{◌∙◌}
use Rattle.suite_hash.proofs.blocks.compress.Goals as goal

pub returns : goal.returns
returns c =
    let a = c.args in
    compress_is _ (sound _) a.s.now a.p.now c.requires (c.block_len-b.ensures.0 ∙ block_len _) c.fold.ensures
