use mathlib.Core.List.{[]}
use Rattle.book.specs.Call.Call.{Early}
use Rattle.lent.proofs.Calls.{wrong_size_lem}
use Rattle.early_stage.proofs.early_lent.Goals as goal

pub returns-then-session-ne-SESSION_BYTES : goal.returns-then-session-ne-SESSION_BYTES
returns-then-session-ne-SESSION_BYTES c = wrong_size_lem c.args.session.now Early [] c.if-session-ne-SESSION_BYTES.true
