use native.Mathlib.Omega.{arith}
use borrow.Author.Tests.{ne_eqb}
use Rattle.perform.specs.Encoding.{call_of}
use Rattle.perform.proofs.Performing.{called, went}
use Rattle.perform.proofs.perform_one.Goals as goal

pub returns-in-1 : goal.returns-in-1
unfolding call_of
returns-in-1 c = went c.begin.result c.begin.ensures c.unwrap_or.ensures (rw c.in-1.is)

pub returns-in-2 : goal.returns-in-2
unfolding call_of
returns-in-2 c = went c.feed.result c.feed.ensures c.unwrap_or-in-2.ensures (rw c.in-2.is)

pub returns-in-3 : goal.returns-in-3
unfolding call_of
returns-in-3 c = went c.early.result c.early.ensures c.unwrap_or-in-3.ensures (rw c.in-3.is)

pub returns-in-4 : goal.returns-in-4
unfolding call_of
returns-in-4 c = went c.handshake.result c.handshake.ensures c.unwrap_or-in-4.ensures (rw c.in-4.is)

pub returns-in-5 : goal.returns-in-5
unfolding call_of
returns-in-5 c = went c.application.result c.application.ensures c.unwrap_or-in-5.ensures (rw c.in-5.is)

pub returns-in-6 : goal.returns-in-6
unfolding call_of
returns-in-6 c = went c.complete.result c.complete.ensures c.unwrap_or-in-6.ensures (rw c.in-6.is)

pub returns-in-7 : goal.returns-in-7
unfolding call_of
returns-in-7 c = went c.update.result c.update.ensures c.unwrap_or-in-7.ensures (rw c.in-7.is)

pub returns-in-9 : goal.returns-in-9
unfolding call_of
returns-in-9 c = called c.keys.ensures (rw c.in-9.is)

pub returns-in-10 : goal.returns-in-10
unfolding call_of
returns-in-10 c = called c.finished.ensures (rw c.in-10.is)

pub returns-in-11 : goal.returns-in-11
unfolding call_of
returns-in-11 c = called c.check.ensures (rw c.in-11.is)

pub returns-in-12 : goal.returns-in-12
unfolding call_of
returns-in-12 c = called c.binder.ensures (rw c.in-12.is)

pub returns-in-13 : goal.returns-in-13
unfolding call_of
returns-in-13 c = called c.export.ensures (rw c.in-13.is)

pub returns-in_default : goal.returns-in_default
unfolding call_of
returns-in_default c =
    called c.close.ensures
    (simp (
      ne_eqb c.args.h.kind 1 (omega arith),
      ne_eqb c.args.h.kind 2 (omega arith),
      ne_eqb c.args.h.kind 3 (omega arith),
      ne_eqb c.args.h.kind 4 (omega arith),
      ne_eqb c.args.h.kind 5 (omega arith),
      ne_eqb c.args.h.kind 6 (omega arith),
      ne_eqb c.args.h.kind 7 (omega arith),
      ne_eqb c.args.h.kind 9 (omega arith),
      ne_eqb c.args.h.kind 10 (omega arith),
      ne_eqb c.args.h.kind 11 (omega arith),
      ne_eqb c.args.h.kind 12 (omega arith),
      ne_eqb c.args.h.kind 13 (omega arith),
    ))
