use Rattle.suite_hash.proofs.Tail.{bits_are, pad_short, pad_long}
use Rattle.std.proofs.Common.{◌∙◌, arith}
use Rattle.suite_hash.proofs.Sound.{sound, block_len}
use Rattle.suite_hash.proofs.padding.pad.Goals as goal

pub returns-then-at-b : goal.returns-then-at-b
returns-then-at-b c =
    pad_short _ (sound _) c.args.h.now (omega arith) (omega arith)
    c.place-at.ensures (c.block_len-b.ensures.0 ∙ block_len _) (bits_are c.to_be_bytes-bits.ensures (omega arith)) c.end.ensures c.if-at-b.true
    c.last.ensures

pub returns : goal.returns
returns c =
    pad_long _ (sound _) c.args.h.now (omega arith) (omega arith)
    c.place-at.ensures (c.block_len-b.ensures.0 ∙ block_len _) (bits_are c.to_be_bytes-bits.ensures (omega arith)) c.end.ensures c.if-at-b.false
    c.compress.ensures c.zeros-h.ensures c.last-2.ensures
