use Rattle.keyed.proofs.Prepared.{block-cut}
use Rattle.keyed.proofs.label_block.Goals as goal

pub returns : goal.returns
returns c =
    let a = c.args in
    block-cut _ a.k a.label.now a.context.now a.asked c.zeros.ensures c.block_len.ensures.0 c.head.ensures c.absorb.ensures c.absorb-2.ensures
    c.absorb-3.ensures c.absorb-4.ensures c.absorb-5.ensures c.close-t.ensures c.cut.ensures
