use Rattle.schedule.specs.Schedule.{within}
use Rattle.schedule.proofs.Derivations.{early_is}
use Rattle.chain_secrets.proofs.early_secret.Goals as goal

pub returns : goal.returns
unfolding within
returns c = early_is _ _ c.zeros-salt.ensures c.extract_or_zeros.ensures
