use Rattle.std.proofs.Common.{rules, tests}
use Rattle.std.proofs.lemmas.Iterator.{YieldsList-from_slice}
use Rattle.hex_text.proofs.Runs.{run_count}
use Rattle.std.specs.Char.{is_ascii_hexdigit}
use Rattle.hex_text.proofs.Pairs.{run_is}
use Rattle.hex_text.specs.Hex.{hex_run}
use Rattle.hex_text.proofs.hex_run.Goals as goal

pub returns : goal.returns
returns c =
    run_count hex_run is_ascii_hexdigit run_is c.count.ensures.ran (YieldsList-from_slice c.args.s.now c.iter.ensures.rest) c.take_while.ensures.source
    c.take_while.ensures.closure c.take_while.ensures.done (λ x b q k. search (rules, tests))
