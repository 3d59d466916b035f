use native.Mathlib.Omega.{arith}
use Rattle.book.specs.Call.Call.{Keys}
use Rattle.lent.proofs.Calls.{wrong_size_lem}
use Rattle.ffi.proofs.Calls.{writing}
use Rattle.ffi.proofs.reading.bindcricket_keys.Goals as goal

pub returns-then-session-ne-SESSION_BYTES : goal.returns-then-session-ne-SESSION_BYTES
returns-then-session-ne-SESSION_BYTES c = wrong_size_lem c.args.session.now (Keys _ c.args.out.now) c.args.out.now c.if-session-ne-SESSION_BYTES.true

pub returns : goal.returns
returns c =
    writing c.args.session.now (Keys _ c.args.out.now) c.if-session-ne-SESSION_BYTES.false (λ i. omega (arith, c.shared_slice_known-1.given i))
    c.decode.ensures c.args.out.now _ c.keys.result c.report.ensures c.keys.ensures
