use Rattle.std.proofs.Common.{rules, tests}
use Rattle.std.proofs.lemmas.Iterator.{YieldsList-from_slice}
use Rattle.hex_text.proofs.Runs.{run_count}
use Rattle.script_line.proofs.Words.{is_space, spaces_are}
use Rattle.script_line.specs.Words.{spaces}
use Rattle.script_line.proofs.word.spaces.Goals as goal

pub returns : goal.returns
returns c =
    run_count spaces is_space spaces_are c.count.ensures.ran (YieldsList-from_slice c.args.s.now c.iter.ensures.rest) c.take_while.ensures.source
    c.take_while.ensures.closure c.take_while.ensures.done (λ x b q k. search (rules, tests))
