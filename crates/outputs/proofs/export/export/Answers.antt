use Rattle.std.proofs.Common.{rules}
use Rattle.outputs.proofs.Exporting.{export_refused, exported}
use Rattle.outputs.proofs.export.export.Goals as goal

pub returns-in_err-judge_export : goal.returns-in_err-judge_export
returns-in_err-judge_export c =
    let a = c.args in
    export_refused a.s a.name a.label.now a.context.now a.asked a.out.now
    c.in_err-judge_export.field-0.0 c.in_err-judge_export.ensures (search rules)

pub returns : goal.returns
returns c =
    let a = c.args in
    exported a.s a.name a.label.now a.context.now a.asked a.out.now
    c.in_ok-judge_export.ensures
    c.length_in_force-n.ensures
    c.exporter_place-secret.ensures c.tls_exporter.result
    c.tls_exporter.ensures
