-- RFC 8446, section 7: the values that the book gives.
use Rattle.std.specs.Prelude.{ℕ, Bool, false, cond, List, [], eqb}
use Rattle.buffer.specs.Buffer.{same}
use Rattle.suite_hash.specs.Hash.{hash}
use Rattle.hkdf.specs.Rfc8446.{derive_secret}
use Rattle.schedule.specs.Labels.{Secret, label, binder_of}
use Rattle.schedule.specs.Labels.Secret.{client_early, early_exporter, client_handshake, server_handshake, client_application, server_application, exporter}
use Rattle.schedule.specs.Diagram.{Chain, from, until}
use Rattle.schedule.specs.Diagram.Chain.{the_early_secret, the_handshake_secret, the_master_secret}
use Rattle.schedule.specs.Schedule.{early_secret, handshake_secret, master_secret, updated, traffic_keys, verify_data, tls_exporter}
use Rattle.book.specs.Call.{Call}
use Rattle.book.specs.Call.Call.{Begin, Feed, Early, Handshake, Application, Complete, Update, Close, Keys, Finished, Check, Binder, Export}
use Rattle.book.specs.Messages.{up_to, transcript}
use Rattle.book.specs.Book.{Book}
use Rattle.book.specs.Refusals.{length_in_force}

-- down the middle of the diagram
unfoldable pub early_secret_of : Book → List ℕ
early_secret_of b = early_secret b.suite b.psk

unfoldable pub handshake_secret_of : Book → List ℕ
handshake_secret_of b = handshake_secret b.suite (early_secret_of b) b.secret

unfoldable pub master_secret_of : Book → List ℕ
master_secret_of b = master_secret b.suite (handshake_secret_of b)

unfoldable pub chain_of : Chain → Book → List ℕ
chain_of the_early_secret b = early_secret_of b
chain_of the_handshake_secret b = handshake_secret_of b
chain_of the_master_secret b = master_secret_of b

-- on its right
unfoldable pub secret_of : Secret → Book → List ℕ
secret_of x b = derive_secret b.suite (chain_of (from x) b) (label x) (transcript (up_to (until x) 0 b.messages))

-- the application secrets, moved on once for each update of their side
unfoldable pub client_application_secret : Book → List ℕ
client_application_secret b = updated b.suite b.client_updates (secret_of client_application b)

unfoldable pub server_application_secret : Book → List ℕ
server_application_secret b = updated b.suite b.server_updates (secret_of server_application b)

-- the secret that Keys names
unfoldable pub traffic_secret : Book → ℕ → List ℕ
traffic_secret b name =
    cond (eqb name 1) (secret_of client_early b)
    (cond (eqb name 2) (secret_of client_handshake b)
    (cond (eqb name 3) (secret_of server_handshake b)
    (cond (eqb name 4) (client_application_secret b) (server_application_secret b))))

-- the hash of all messages so far
unfoldable pub transcript_hash : Book → List ℕ
transcript_hash b = hash b.suite (transcript b.messages)

-- the Finished value of a side, under its handshake secret
unfoldable pub finished_value : Book → ℕ → List ℕ
finished_value b side =
    verify_data b.suite (cond (eqb side 1) (secret_of client_handshake b) (secret_of server_handshake b)) (transcript_hash b)

-- the binder over a cut ClientHello, under the binder key
unfoldable pub binder_value : Book → List ℕ → List ℕ
binder_value b hello = verify_data b.suite (secret_of (binder_of b.kind) b) (hash b.suite hello)

unfoldable pub exported_value : Book → ℕ → List ℕ → List ℕ → ℕ → List ℕ
exported_value b name l context asked =
    tls_exporter b.suite (cond (eqb name 1) (secret_of early_exporter b) (secret_of exporter b)) l context (length_in_force asked)

-- What an accepted call writes, from the front of its lent output.
unfoldable pub written : Book → Call → List ℕ
written b (Begin suite kind psk) = []
written b (Feed message) = []
written b Early = []
written b (Handshake group secret) = []
written b Application = []
written b Complete = []
written b (Update side) = []
written b Close = []
written b (Keys name output) = traffic_keys b.suite (traffic_secret b name)
written b (Finished side output) = finished_value b side
written b (Check side received) = []
written b (Binder hello output) = binder_value b hello
written b (Export name l context asked output) = exported_value b name l context asked

-- Check's yes or no; every other call's is no.
unfoldable pub verdict : Book → Call → Bool
verdict b (Begin suite kind psk) = false
verdict b (Feed message) = false
verdict b Early = false
verdict b (Handshake group secret) = false
verdict b Application = false
verdict b Complete = false
verdict b (Update side) = false
verdict b Close = false
verdict b (Keys name output) = false
verdict b (Finished side output) = false
verdict b (Check side received) = same received (finished_value b side)
verdict b (Binder hello output) = false
verdict b (Export name l context asked output) = false
