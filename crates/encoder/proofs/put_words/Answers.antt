use native.Mathlib.Omega.{arith}
use Rattle.encoding.specs.Words.{le_words}
use Rattle.encoder.proofs.Writing.{start, word_more, words-done}
use Rattle.encoder.proofs.put_words.Goals as goal

pub loop-word-init : goal.loop-word-init
unfolding le_words
loop-word-init c = (omega arith, c.requires, start _ _)

pub loop-word-preserved : goal.loop-word-preserved
loop-word-preserved c =
    let h = c.loop-word.invariant in (
      h.0,
      h.1,
      word_more _ _ _ _ (omega arith) h.0 h.1 h.2 c.to_le_bytes.ensures c.put-next.ensures,
    )

pub returns : goal.returns
returns c = let l = c.loop-word in words-done _ _ _ l.word-index l.invariant.0 (omega arith) l.invariant.2
