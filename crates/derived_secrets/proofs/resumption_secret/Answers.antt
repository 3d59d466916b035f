use Rattle.schedule.proofs.Derivations.{secret_is}
use Rattle.schedule.specs.Labels.{Secret, label}
use Rattle.derived_secrets.proofs.resumption_secret.Goals as goal

pub returns : goal.returns
unfolding label
returns c =
    let h = c.hash_len-h.ensures.0 in
    let k = c.ready-k.ensures in
    secret_is _ Secret.resumption _ _ h k c.derive.ensures
