use Rattle.schedule.proofs.Derivations.{next_is}
use Rattle.chain_secrets.proofs.next_secret.Goals as goal

pub returns : goal.returns
returns c = next_is _ _ _ c.over_nothing-salt.ensures c.extract_or_zeros.ensures
