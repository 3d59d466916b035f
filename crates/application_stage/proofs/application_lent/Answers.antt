use mathlib.Core.List.{[]}
use Rattle.book.specs.Call.Call.{Application}
use Rattle.lent.proofs.Calls.{wrong_size_lem}
use Rattle.application_stage.proofs.application_lent.Goals as goal

pub returns-then-session-ne-SESSION_BYTES : goal.returns-then-session-ne-SESSION_BYTES
returns-then-session-ne-SESSION_BYTES c = wrong_size_lem c.args.session.now Application [] c.if-session-ne-SESSION_BYTES.true
