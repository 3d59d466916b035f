use native.Mathlib.Omega.{arith}
use mathlib.Core.List.{[]}
use Rattle.book.specs.Call.Call.{Feed}
use Rattle.lent.proofs.Calls.{wrong_size_lem, changing}
use Rattle.ffi.proofs.changing.bindcricket_feed.Goals as goal

pub returns-then-session-ne-SESSION_BYTES : goal.returns-then-session-ne-SESSION_BYTES
returns-then-session-ne-SESSION_BYTES c = wrong_size_lem c.args.session.now (Feed c.args.message.now) [] c.if-session-ne-SESSION_BYTES.true

pub returns : goal.returns
returns c =
    changing c.args.session.now (Feed c.args.message.now) c.if-session-ne-SESSION_BYTES.false (λ i. omega (arith, c.slice_known-1.given i))
    c.decode.ensures c.feed-done.result c.feed-done.ensures c.store.ensures.0 c.store.ensures.1
