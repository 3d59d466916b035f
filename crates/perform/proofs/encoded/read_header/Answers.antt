use Rattle.perform.proofs.Performing.{header_is}
use Rattle.perform.proofs.encoded.read_header.Goals as goal

pub returns : goal.returns
returns c =
    header_is _ _ c.byte_at-kind.ensures
    c.byte_at-small.ensures
    c.number2-wide.ensures
    c.number4-first.ensures
    c.number4-second.ensures
    c.number4-asked.ensures
    c.number4-room.ensures
