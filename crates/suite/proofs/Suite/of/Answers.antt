use native.Mathlib.Omega.{arith}
use mathlib.Core.Path.{◌∙◌}
use Rattle.suite.specs.Suite.{suite_of, find}
use Rattle.suite.proofs.Laws.{other}
use Rattle.suite.proofs.Suite.of.Goals as goal

pub returns-in-4866 : goal.returns-in-4866
unfolding suite_of find
returns-in-4866 c = c.entry.ensures ∙ rw c.in-4866.is

pub returns-in-4867 : goal.returns-in-4867
unfolding suite_of find
returns-in-4867 c = c.entry-in-4867.ensures ∙ rw c.in-4867.is

pub returns-in-4868 : goal.returns-in-4868
unfolding suite_of find
returns-in-4868 c = c.entry-in-4868.ensures ∙ rw c.in-4868.is

pub returns-in-4869 : goal.returns-in-4869
unfolding suite_of find
returns-in-4869 c = c.entry-in-4869.ensures ∙ rw c.in-4869.is

pub returns-in_default : goal.returns-in_default
returns-in_default c = c.entry-in_default.ensures ∙ other _ (omega arith) (omega arith) (omega arith) (omega arith)
