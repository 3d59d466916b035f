use Rattle.std.proofs.Common.{rules, tests}
use Rattle.std.proofs.lemmas.Iterator.{YieldsList-from_slice}
use Rattle.hex_text.proofs.Runs.{run_count}
use Rattle.text.proofs.Ends.{is_inside, len_is}
use Rattle.text.specs.Field.{field_len}
use Rattle.text.proofs.field.field_len.Goals as goal

pub returns : goal.returns
returns c =
    run_count field_len is_inside len_is c.count.ensures.ran (YieldsList-from_slice c.args.s.now c.iter.ensures.rest) c.take_while.ensures.source
    c.take_while.ensures.closure c.take_while.ensures.done (λ x b q k. search (rules, tests))
