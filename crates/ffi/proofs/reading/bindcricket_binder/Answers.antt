use native.Mathlib.Omega.{arith}
use Rattle.book.specs.Call.Call.{Binder}
use Rattle.lent.proofs.Calls.{wrong_size_lem}
use Rattle.ffi.proofs.Calls.{writing}
use Rattle.ffi.proofs.reading.bindcricket_binder.Goals as goal

pub returns-then-session-ne-SESSION_BYTES : goal.returns-then-session-ne-SESSION_BYTES
returns-then-session-ne-SESSION_BYTES c = wrong_size_lem c.args.session.now (Binder c.args.hello.now c.args.out.now) c.args.out.now c.if-session-ne-SESSION_BYTES.true

pub returns : goal.returns
returns c =
    writing c.args.session.now (Binder c.args.hello.now c.args.out.now) c.if-session-ne-SESSION_BYTES.false (λ i. omega (arith, c.shared_slice_known-1.given i))
    c.decode.ensures c.args.out.now _ c.binder.result c.report.ensures c.binder.ensures
