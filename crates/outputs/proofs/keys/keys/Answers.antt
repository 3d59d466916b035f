use Rattle.std.proofs.Common.{refl, rules}
use Rattle.outputs.proofs.Answers.{keys-refused, keys_fit, keys-done}
use Rattle.outputs.proofs.keys.keys.Goals as goal

pub returns-in_err-judge_keys : goal.returns-in_err-judge_keys
returns-in_err-judge_keys c =
    let a = c.args in
    keys-refused a.s a.name a.out.now c.in_err-judge_keys.field-0.0 c.in_err-judge_keys.ensures (search rules)

pub write_keys-count-requires : goal.write_keys-count-requires
write_keys-count-requires c = let a = c.args in keys_fit a.s a.name a.out.now c.in_ok-judge_keys.ensures

pub returns : goal.returns
returns c =
    let a = c.args in
    keys-done a.s a.name a.out.now c.in_ok-judge_keys.ensures c.named_place-secret.ensures c.write_keys-count.ensures refl
