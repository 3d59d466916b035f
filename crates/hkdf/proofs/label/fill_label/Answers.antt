use Rattle.hkdf.proofs.Labels.{label-size, label_is}
use Rattle.hkdf.proofs.label.fill_label.Goals as goal

pub fill-requires : goal.fill-requires
fill-requires c =
    let a = c.args in
    let p = c.requires in
    (label-size a.asked a.label.now a.context.now c.head-head.ensures p.0 p.1, p.2, p.3)

pub returns : goal.returns
returns c =
    let a = c.args in
    label_is a.asked a.label.now a.context.now c.head-head.ensures _ a.secret.now a.out.now (c.fill.ensures a.secret.now c.prepare-k.ensures)
