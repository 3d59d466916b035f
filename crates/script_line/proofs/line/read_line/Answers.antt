use Rattle.script_line.proofs.Lines.{read_plain, read_bytes, read_wrong}
use Rattle.std.proofs.lemmas.Result.{err_from_is_err_and}
use mathlib.Core.Path.{refl}
use Rattle.script_line.proofs.line.read_line.Goals as goal

pub returns-in_err-heading_of : goal.returns-in_err-heading_of
returns-in_err-heading_of c =
    let p = err_from_is_err_and c.from_residual.result c.from_residual.ensures.1 in
    rw (p.1, p.2) (read_plain _ _ _ c.content-content.ensures c.in_err-heading_of.ensures refl)

pub returns-in-Blank : goal.returns-in-Blank
returns-in-Blank c = read_plain _ _ _ c.content-content.ensures (rw c.in-Blank.is at c.in_ok-heading_of.ensures) refl

pub returns-in-Bare : goal.returns-in-Bare
returns-in-Bare c = read_plain _ _ _ c.content-content.ensures (rw c.in-Bare.is at c.in_ok-heading_of.ensures) refl

pub returns-in-Ok : goal.returns-in-Ok
returns-in-Ok c =
    read_bytes _ _ _ c.content-content.ensures (rw c.in-Carried.is at c.in_ok-heading_of.ensures) c.word.ensures c.in-Ok.ensures.0
    c.in-Ok.ensures.1

pub returns-in-Err : goal.returns-in-Err
returns-in-Err c =
    read_wrong _ _ _ c.content-content.ensures (rw c.in-Carried.is at c.in_ok-heading_of.ensures) c.word.ensures c.in-Err.ensures.0
    c.in-Err.ensures.1
