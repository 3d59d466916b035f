use Rattle.script_line.proofs.Fields.{body_dash, body_hex}
use Rattle.std.specs.Str.{bytes_eq}
use mathlib.Core.Path.{sym, ap, ◌∙◌}
use Rattle.script_line.proofs.number.get_body.Goals as goal

pub returns-then-eq : goal.returns-then-eq
returns-then-eq c = body_dash _ _ _ (sym c.if-eq.true ∙ c.eq.ensures ∙ ap (bytes_eq c.args.s.now) c.as_slice.ensures)

pub returns : goal.returns
returns c = body_hex _ _ _ (sym c.if-eq.false ∙ c.eq.ensures ∙ ap (bytes_eq c.args.s.now) c.as_slice.ensures) c.get_hex.ensures.0 c.get_hex.ensures.1
