use Prim.Native.Nat.{ℕ}
use mathlib.Core.List.{List}
use lib.ListN.{take}
use Rattle.buffer.specs.Buffer.{placed}
use Rattle.suite.specs.Suite.{hash_length}
use Rattle.schedule.specs.Schedule.{next_traffic_secret}
use mathlib.Core.Path.{refl, sym, ap, ◌∙◌}
use Rattle.std.proofs.Common.{rules}
use Rattle.book.specs.Call.Call.{Update}
use Rattle.book.specs.Call.{lent}
use Rattle.session.specs.Values.{written, verdict}
use Rattle.session.proofs.Calls.{refused-plain, accepted-plain}
use Rattle.session.proofs.Decisions.{update_is}
use Rattle.complete_stage.proofs.update.update.Goals as goal

pub returns-in_err-judge : goal.returns-in_err-judge
unfolding lent
returns-in_err-judge c = let a = c.args in
    refused-plain a.s (Update a.side) refl (update_is a.s a.side refl) c.in_err-judge.field-0.0 c.in_err-judge.ensures (search rules)

pub update_kept-requires : goal.update_kept-requires
update_kept-requires c = sym c.in_ok-judge.ensures

pub returns : goal.returns
unfolding lent written verdict
returns c = let a = c.args in
    accepted-plain a.s (Update a.side) refl (update_is a.s a.side refl) (λ b. refl) (λ b. refl) c.in_ok-judge.ensures refl
    (λ b r e y. c.update_kept.ensures b r e y
    (c.next_traffic_secret-moved.ensures ∙ ap (λ (l : List ℕ). placed (next_traffic_secret a.s.suite (take (hash_length a.s.suite) l)))
    c.of_side-secret.ensures))
