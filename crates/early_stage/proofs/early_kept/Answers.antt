use Rattle.book.proofs.Books.{good}
use Rattle.session.proofs.Decisions.{early_taken}
use Rattle.early_stage.proofs.Step.{earlied}
use Rattle.early_stage.proofs.early_kept.Goals as goal

pub returns : goal.returns
returns c b d r e y ed ec ex = let t = early_taken b y in earlied b c.args.s (good r) t.at t.come e ed ec ex
