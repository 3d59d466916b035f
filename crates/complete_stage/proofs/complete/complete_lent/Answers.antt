use mathlib.Core.List.{[]}
use Rattle.book.specs.Call.Call.{Complete}
use Rattle.lent.proofs.Calls.{wrong_size_lem}
use Rattle.complete_stage.proofs.complete.complete_lent.Goals as goal

pub returns-then-session-ne-SESSION_BYTES : goal.returns-then-session-ne-SESSION_BYTES
returns-then-session-ne-SESSION_BYTES c = wrong_size_lem c.args.session.now Complete [] c.if-session-ne-SESSION_BYTES.true
