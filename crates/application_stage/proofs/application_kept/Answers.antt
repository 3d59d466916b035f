use Rattle.book.proofs.Books.{good}
use Rattle.session.proofs.Decisions.{application_taken}
use Rattle.application_stage.proofs.Step.{applied}
use Rattle.application_stage.proofs.application_kept.Goals as goal

pub returns : goal.returns
returns c b d r e y ed ek ec es ex = applied b c.args.s (good r) (application_taken b y).0 e ed ek ec es ex
