use Rattle.suite_hash.proofs.Turns.{absorb_short, absorb_long}
use Rattle.std.proofs.Common.{refl, ◌∙◌, arith}
use Rattle.suite_hash.proofs.Sound.{sound, block_len}
use Rattle.suite_hash.proofs.running.Running.absorb.Goals as goal

pub returns-then-at-k : goal.returns-then-at-k
returns-then-at-k c =
    let a = c.args in
    absorb_short _ (sound _) a.self.now (omega arith) (omega arith) a.x.now
    c.place-at.ensures (c.block_len-b.ensures.0 ∙ block_len _) refl c.put.ensures.1 (omega arith) c.if-at-k.true

pub returns : goal.returns
returns c =
    let a = c.args in
    absorb_long _ (sound _) a.self.now (omega arith) (omega arith) a.x.now
    c.place-at.ensures (c.block_len-b.ensures.0 ∙ block_len _) refl c.put.ensures.1 (omega arith) c.if-at-k.false
    c.compress.ensures c.fold.ensures c.whole-w.ensures c.zeros-self.ensures c.put-2.ensures.1
