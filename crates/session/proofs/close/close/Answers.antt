use mathlib.Core.Path.{refl}
use Rattle.book.specs.Call.Call.{Close}
use Rattle.book.specs.Call.{lent}
use Rattle.book.specs.Refusals.{number}
use Rattle.session.specs.Values.{written, verdict}
use Rattle.session.proofs.Calls.{accepted-silent}
use Rattle.session.proofs.Step.{closed}
use Rattle.session.proofs.close.close.Goals as goal

pub returns : goal.returns
unfolding number lent written verdict
returns c = accepted-silent _ Close _ refl (λ b. refl) (λ b. refl) (λ b r e. refl) (λ b r e z. closed b _ c.fresh-next.ensures)
