use mathlib.Core.Bool.{true, false}
use mathlib.Core.Path.{refl}
use native.Mathlib.Omega.{arith}
use borrow.Author.Tests.{eq-eqb, ne_eqb}
use Rattle.session.proofs.Decisions.{client_left, server_left, update_taken}
use Rattle.complete_stage.proofs.UpdateStep.{renewed}
use Rattle.complete_stage.proofs.update.update_kept.Goals as goal

pub overflow_add-s : goal.overflow_add-s
overflow_add-s c = let a = c.args in
    omega (
      arith,
      client_left a.s.point a.side a.s.client_updates a.s.server_updates refl c.requires c.if-side-eq1.true,
    )

pub overflow_add-s-else-side-eq1 : goal.overflow_add-s-else-side-eq1
overflow_add-s-else-side-eq1 c = let a = c.args in
    omega (
      arith,
      server_left a.s.point a.side a.s.client_updates a.s.server_updates refl c.requires c.if-side-eq1.false,
    )

pub returns-then-side-eq1 : goal.returns-then-side-eq1
returns-then-side-eq1 c b r e y em = let a = c.args in
    renewed b a.s a.side true (update_taken b a.side y).at (eq-eqb _ _ c.if-side-eq1.true) e em

pub returns-else-side-eq1 : goal.returns-else-side-eq1
returns-else-side-eq1 c b r e y em = let a = c.args in
    renewed b a.s a.side false (update_taken b a.side y).at (ne_eqb _ _ c.if-side-eq1.false) e em
