use mathlib.Core.List.{[]}
use Rattle.book.specs.Call.Call.{Update}
use Rattle.lent.proofs.Calls.{wrong_size_lem}
use Rattle.complete_stage.proofs.update.update_lent.Goals as goal

pub returns-then-session-ne-SESSION_BYTES : goal.returns-then-session-ne-SESSION_BYTES
returns-then-session-ne-SESSION_BYTES c = let a = c.args in wrong_size_lem a.session.now (Update a.side) [] c.if-session-ne-SESSION_BYTES.true
