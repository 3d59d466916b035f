use borrow.Author.Rules.{rules}
use Rattle.encoder.proofs.Writing.{numbers_over}
use Rattle.encoder.proofs.put_numbers.Goals as goal

pub returns : goal.returns
returns c =
    numbers_over c.args.s.now c.args.out.now c.requires (search rules) (search rules)
    c.to_le_bytes.ensures c.put-a.ensures c.to_le_bytes-2.ensures c.put-b.ensures c.to_le_bytes-3.ensures c.put-c.ensures
    c.to_le_bytes-4.ensures c.put-d.ensures c.to_le_bytes-5.ensures c.put-e.ensures c.to_le_bytes-6.ensures c.put-f.ensures
    c.to_le_bytes-7.ensures c.put.ensures
