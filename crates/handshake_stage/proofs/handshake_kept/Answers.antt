use Rattle.book.proofs.Books.{good}
use Rattle.session.proofs.Decisions.{handshake_taken}
use Rattle.handshake_stage.proofs.Step.{shaken}
use Rattle.handshake_stage.proofs.handshake_kept.Goals as goal

pub returns : goal.returns
returns c b group secret d r e y ed ek ec es = let t = handshake_taken b group secret y in
    shaken b group secret c.args.s (good r) t.at t.small e ed ek ec es c.zeros-none.ensures
