use mathlib.Core.Path.{refl, ap, ◌∙◌}
use Rattle.std.proofs.Common.{rules}
use Rattle.book.specs.Call.Call.{Feed}
use Rattle.book.specs.Call.{lent}
use Rattle.book.specs.Messages.{stage_after}
use Rattle.session.specs.Values.{written, verdict}
use Rattle.book.proofs.Books.{good}
use Rattle.session.proofs.Calls.{refused-plain, accepted-plain}
use Rattle.feeding.proofs.Feeding.{feed_is, feed_taken, fed_running, fed}
use Rattle.feeding.proofs.feed.Goals as goal

pub returns-in_err-judge : goal.returns-in_err-judge
unfolding lent
returns-in_err-judge c = let a = c.args in
    refused-plain a.s (Feed a.message.now) refl (feed_is a.s a.message.now refl)
    c.in_err-judge.field-0.0 c.in_err-judge.ensures (search rules)

pub returns : goal.returns
unfolding lent written verdict
returns c = let a = c.args in
    let m = a.message.now in
    accepted-plain a.s (Feed m) refl (feed_is a.s m refl) (λ b. refl) (λ b. refl) c.in_ok-judge.ensures refl
    (λ b r e y.
    let t = feed_taken b m y in
    fed b m a.s _ _ (good r) t.where_taken e (fed_running a.s b m e t c.absorb.ensures)
    (c.stage_after.ensures ∙ ap (stage_after a.s.stage) c.byte_at.ensures))
