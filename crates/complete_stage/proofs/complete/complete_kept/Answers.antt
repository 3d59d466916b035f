use Rattle.book.proofs.Books.{good}
use Rattle.session.proofs.Decisions.{complete_taken}
use Rattle.complete_stage.proofs.CompleteStep.{completed}
use Rattle.complete_stage.proofs.complete.complete_kept.Goals as goal

pub returns : goal.returns
returns c b d r e y ed em = completed b c.args.s (good r) (complete_taken b y).0 e ed em c.zeros-none.ensures
