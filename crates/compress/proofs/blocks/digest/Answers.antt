use Rattle.fips180.proofs.Digest.{digest-cut}
use Rattle.compress.proofs.blocks.digest.Goals as goal

pub returns : goal.returns
returns g c = digest-cut g.V.Sha2.variant _ c.cut.ensures c.digest_words.ensures
