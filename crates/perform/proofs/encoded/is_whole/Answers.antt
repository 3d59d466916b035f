use native.Mathlib.Omega.{arith}
use Rattle.perform.proofs.Performing.{no_strings, no_room, all_there}
use Rattle.perform.proofs.encoded.is_whole.Goals as goal

pub returns-then-left-lt20 : goal.returns-then-left-lt20
returns-then-left-lt20 c = let a = c.args in no_strings a.h a.size a.lent a.at a.used (omega arith)

pub returns-then-left-h : goal.returns-then-left-h
returns-then-left-h c = let a = c.args in no_strings a.h a.size a.lent a.at a.used (omega arith)

pub returns-then-left-h-2 : goal.returns-then-left-h-2
returns-then-left-h-2 c =
    let a = c.args in
    no_strings a.h a.size a.lent a.at a.used (omega arith)

pub returns-then-lent-used : goal.returns-then-lent-used
returns-then-lent-used c =
    let a = c.args in
    no_room a.h a.size a.lent a.at a.used (omega arith) (omega arith)

pub returns : goal.returns
returns c =
    let a = c.args in
    all_there a.h a.size a.lent a.at a.used (omega arith) (omega arith)
