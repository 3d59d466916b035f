use Rattle.ffi_blank.proofs.Fresh.{not-fresh, freshly}
use Rattle.ffi_blank.proofs.bindcricket_fresh.Goals as goal

pub returns-then-session-ne-SESSION_BYTES : goal.returns-then-session-ne-SESSION_BYTES
returns-then-session-ne-SESSION_BYTES c = not-fresh c.args.session.now c.if-session-ne-SESSION_BYTES.true

pub returns : goal.returns
returns c = freshly c.args.session.now c.if-session-ne-SESSION_BYTES.false c.fresh.ensures c.encode.ensures
