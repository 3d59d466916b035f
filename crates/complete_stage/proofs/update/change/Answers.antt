use Prim.Native.Nat.{ℕ}
use mathlib.Core.List.{List}
use mathlib.Core.Path.{◌≡◌, refl, sym, ap, ◌∙◌, subst}
use native.Mathlib.Omega.{arith}
use lib.ListN.{take}
use Rattle.buffer.specs.Buffer.{placed}
use Rattle.suite.specs.Suite.{hash_length}
use Rattle.schedule.specs.Schedule.{next_traffic_secret}
use Rattle.book.specs.Call.Call.{Update}
use Rattle.book.specs.Call.{lent}
use Rattle.book.specs.Refusals.{update_number}
use Rattle.session.specs.declared.Session.{Session}
use Rattle.session.specs.Values.{written, verdict}
use Rattle.session.proofs.Decisions.{update_is}
use Rattle.std.proofs.Common.{rules}
use Rattle.lent.proofs.Calls.{not-kept, kept}
use Rattle.complete_stage.specs.Kept.{UpdateKept}
use Rattle.complete_stage.proofs.update.change.Goals as goal

pub returns-in_err-judge : goal.returns-in_err-judge
unfolding lent
returns-in_err-judge c = let a = c.args in
    not-kept a.session.now (Update a.side) c.requires (λ i. omega (arith, c.slice_known-1.given i))
    c.decode-before.ensures refl (update_is c.decode-before.result a.side refl)
    c.in_err-judge.field-0.0 c.in_err-judge.ensures (search rules)

pub update_kept-after-requires : goal.update_kept-after-requires
update_kept-after-requires c =
    subst (λ (x : Session). update_number x.point c.args.side x.client_updates x.server_updates ≡ 0)
    (c.decode-before.ensures ∙ sym c.decode.ensures) (sym c.in_ok-judge.ensures)

pub returns : goal.returns
unfolding lent written verdict
returns c = let a = c.args in
    let s = c.decode-before in
    let k = c.update_kept-after in
    let moved = c.next_traffic_secret-moved in
    kept a.session.now (Update a.side) c.requires (λ i. omega (arith, c.slice_known-1.given i))
    s.ensures refl (update_is s.result a.side refl) (λ b. refl) (λ b. refl) c.in_ok-judge.ensures refl
    (λ b r e y.
    subst (λ (x : Session). UpdateKept x a.side moved.result k.result)
    (c.decode.ensures ∙ sym s.ensures) k.ensures b r e y
    (moved.ensures ∙ ap (λ (l : List ℕ). placed (next_traffic_secret s.result.suite (take (hash_length s.result.suite) l)))
    c.of_side-secret.ensures))
    c.encode.ensures
