-- Every number of the book is one of document 01's.
use Prim.Native.Nat.{◌≤◌}
use native.Mathlib.Omega.{arith}
use lib.ListN.{length}
use Rattle.book.specs.Call.{Call}
use Rattle.book.specs.Call.Call.{Begin, Feed, Early, Handshake, Application, Complete, Update, Close, Keys, Finished, Check, Binder, Export}
use Rattle.book.specs.Book.{Book, stage_of, fed_of}
use Rattle.book.specs.Refusals.{number}
use Rattle.book.proofs.Accepted.{begin_small, feed_small, early_small, handshake_small, application_small, complete_small, update_small}
use Rattle.book.proofs.AcceptedReads.{keys_small, finished_small, check_small, binder_small, export_small}

pub number_small : (b : Book) (c : Call) → number b c ≤ 13
unfolding number
number_small b (Begin suite kind psk) = begin_small b.point suite kind (length psk)
number_small b (Feed message) = feed_small b.point (stage_of b) (fed_of b) message
number_small b Early = early_small b.point (stage_of b) b.ran b.kind
number_small b (Handshake group secret) = handshake_small b.point (stage_of b) b.kind group secret
number_small b Application = application_small b.point (stage_of b)
number_small b Complete = complete_small b.point (stage_of b)
number_small b (Update side) = update_small b.point side b.client_updates b.server_updates
number_small b Close = omega arith
number_small b (Keys name output) = keys_small b.point b.suite b.ran name (length output)
number_small b (Finished side output) = finished_small b.point (stage_of b) b.suite side (length output)
number_small b (Check side received) = check_small b.point (stage_of b) side
number_small b (Binder hello output) = binder_small b.point b.suite b.kind hello (length output)
number_small b (Export name label context asked output) =
    export_small b.point b.suite b.ran name (length label) (length context) asked (length output)
