use Rattle.script_line.proofs.Words.{split_is}
use Rattle.script_line.proofs.word.split_word.Goals as goal

pub returns : goal.returns
returns c = split_is c.args.s.now c.spaces.ensures.0 c.field_end.ensures.0 c.split_at.ensures.front c.split_at.ensures.back
