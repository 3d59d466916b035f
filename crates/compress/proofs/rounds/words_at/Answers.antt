use Rattle.fips180.proofs.Rows.{words-first, words-next}
use Rattle.compress.proofs.rounds.words_at.Goals as goal

pub returns-then-q-eq0 : goal.returns-then-q-eq0
returns-then-q-eq0 g c = words-first g.V.Sha2.variant _ _ c.if-q-eq0.true

pub returns-else-q-eq0 : goal.returns-else-q-eq0
returns-else-q-eq0 g c = words-next g.V.Sha2.variant _ _ c.if-q-eq0.false c.next_words.ensures
