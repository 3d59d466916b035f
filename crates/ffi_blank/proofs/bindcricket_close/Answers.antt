use native.Mathlib.Omega.{arith}
use mathlib.Core.List.{[]}
use Rattle.book.specs.Call.Call.{Close}
use mathlib.Core.Path.{refl}
use Rattle.std.proofs.Common.{Ok}
use Rattle.session.proofs.Calls.{closed_plain}
use Rattle.lent.proofs.Calls.{wrong_size_lem, changing}
use Rattle.ffi_blank.proofs.bindcricket_close.Goals as goal

pub returns-then-session-ne-SESSION_BYTES : goal.returns-then-session-ne-SESSION_BYTES
returns-then-session-ne-SESSION_BYTES c = wrong_size_lem c.args.session.now Close [] c.if-session-ne-SESSION_BYTES.true

pub returns : goal.returns
returns c =
    changing c.args.session.now Close c.if-session-ne-SESSION_BYTES.false (λ i. omega (arith, c.slice_known-1.given i))
    c.decode.ensures (Ok c.close.result.0) (closed_plain c.close.ensures) refl c.encode.ensures
