use Rattle.schedule.proofs.Derivations.{secret_is}
use Rattle.schedule.specs.Labels.{Secret, label}
use Rattle.derived_secrets.proofs.handshake_secrets.Goals as goal

pub returns : goal.returns
unfolding label
returns c =
    let h = c.hash_len-h.ensures.0 in
    let k = c.ready-k.ensures in (
      secret_is _ Secret.client_handshake _ _ h k c.derive-client.ensures,
      secret_is _ Secret.server_handshake _ _ h k c.derive-server.ensures,
    )
