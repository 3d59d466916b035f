-- A test of one call and its inputs; of any other call, the rest. `never` is no test at all.
use Rattle.std.specs.Prelude.{ℕ, Bool, false, List}
use Rattle.book.specs.Call.{Call}
use Rattle.book.specs.Call.Call.{Begin, Feed, Early, Handshake, Application, Complete, Update, Close, Keys, Finished, Check, Binder, Export}

abbrev pub never : Call → Bool
never c = false

abbrev pub on_begin : (ℕ → ℕ → List ℕ → Bool) → (Call → Bool) → Call → Bool
on_begin test rest (Begin suite kind psk) = test suite kind psk
on_begin test rest (Feed message) = rest (Feed message)
on_begin test rest Early = rest Early
on_begin test rest (Handshake group secret) = rest (Handshake group secret)
on_begin test rest Application = rest Application
on_begin test rest Complete = rest Complete
on_begin test rest (Update side) = rest (Update side)
on_begin test rest Close = rest Close
on_begin test rest (Keys name output) = rest (Keys name output)
on_begin test rest (Finished side output) = rest (Finished side output)
on_begin test rest (Check side received) = rest (Check side received)
on_begin test rest (Binder hello output) = rest (Binder hello output)
on_begin test rest (Export name label context asked output) = rest (Export name label context asked output)

abbrev pub on_feed : (List ℕ → Bool) → (Call → Bool) → Call → Bool
on_feed test rest (Begin suite kind psk) = rest (Begin suite kind psk)
on_feed test rest (Feed message) = test message
on_feed test rest Early = rest Early
on_feed test rest (Handshake group secret) = rest (Handshake group secret)
on_feed test rest Application = rest Application
on_feed test rest Complete = rest Complete
on_feed test rest (Update side) = rest (Update side)
on_feed test rest Close = rest Close
on_feed test rest (Keys name output) = rest (Keys name output)
on_feed test rest (Finished side output) = rest (Finished side output)
on_feed test rest (Check side received) = rest (Check side received)
on_feed test rest (Binder hello output) = rest (Binder hello output)
on_feed test rest (Export name label context asked output) = rest (Export name label context asked output)

abbrev pub on_early : Bool → (Call → Bool) → Call → Bool
on_early test rest (Begin suite kind psk) = rest (Begin suite kind psk)
on_early test rest (Feed message) = rest (Feed message)
on_early test rest Early = test
on_early test rest (Handshake group secret) = rest (Handshake group secret)
on_early test rest Application = rest Application
on_early test rest Complete = rest Complete
on_early test rest (Update side) = rest (Update side)
on_early test rest Close = rest Close
on_early test rest (Keys name output) = rest (Keys name output)
on_early test rest (Finished side output) = rest (Finished side output)
on_early test rest (Check side received) = rest (Check side received)
on_early test rest (Binder hello output) = rest (Binder hello output)
on_early test rest (Export name label context asked output) = rest (Export name label context asked output)

abbrev pub on_handshake : (ℕ → List ℕ → Bool) → (Call → Bool) → Call → Bool
on_handshake test rest (Begin suite kind psk) = rest (Begin suite kind psk)
on_handshake test rest (Feed message) = rest (Feed message)
on_handshake test rest Early = rest Early
on_handshake test rest (Handshake group secret) = test group secret
on_handshake test rest Application = rest Application
on_handshake test rest Complete = rest Complete
on_handshake test rest (Update side) = rest (Update side)
on_handshake test rest Close = rest Close
on_handshake test rest (Keys name output) = rest (Keys name output)
on_handshake test rest (Finished side output) = rest (Finished side output)
on_handshake test rest (Check side received) = rest (Check side received)
on_handshake test rest (Binder hello output) = rest (Binder hello output)
on_handshake test rest (Export name label context asked output) = rest (Export name label context asked output)

abbrev pub on_update : (ℕ → Bool) → (Call → Bool) → Call → Bool
on_update test rest (Begin suite kind psk) = rest (Begin suite kind psk)
on_update test rest (Feed message) = rest (Feed message)
on_update test rest Early = rest Early
on_update test rest (Handshake group secret) = rest (Handshake group secret)
on_update test rest Application = rest Application
on_update test rest Complete = rest Complete
on_update test rest (Update side) = test side
on_update test rest Close = rest Close
on_update test rest (Keys name output) = rest (Keys name output)
on_update test rest (Finished side output) = rest (Finished side output)
on_update test rest (Check side received) = rest (Check side received)
on_update test rest (Binder hello output) = rest (Binder hello output)
on_update test rest (Export name label context asked output) = rest (Export name label context asked output)

abbrev pub on_keys : (ℕ → List ℕ → Bool) → (Call → Bool) → Call → Bool
on_keys test rest (Begin suite kind psk) = rest (Begin suite kind psk)
on_keys test rest (Feed message) = rest (Feed message)
on_keys test rest Early = rest Early
on_keys test rest (Handshake group secret) = rest (Handshake group secret)
on_keys test rest Application = rest Application
on_keys test rest Complete = rest Complete
on_keys test rest (Update side) = rest (Update side)
on_keys test rest Close = rest Close
on_keys test rest (Keys name output) = test name output
on_keys test rest (Finished side output) = rest (Finished side output)
on_keys test rest (Check side received) = rest (Check side received)
on_keys test rest (Binder hello output) = rest (Binder hello output)
on_keys test rest (Export name label context asked output) = rest (Export name label context asked output)

abbrev pub on_finished : (ℕ → List ℕ → Bool) → (Call → Bool) → Call → Bool
on_finished test rest (Begin suite kind psk) = rest (Begin suite kind psk)
on_finished test rest (Feed message) = rest (Feed message)
on_finished test rest Early = rest Early
on_finished test rest (Handshake group secret) = rest (Handshake group secret)
on_finished test rest Application = rest Application
on_finished test rest Complete = rest Complete
on_finished test rest (Update side) = rest (Update side)
on_finished test rest Close = rest Close
on_finished test rest (Keys name output) = rest (Keys name output)
on_finished test rest (Finished side output) = test side output
on_finished test rest (Check side received) = rest (Check side received)
on_finished test rest (Binder hello output) = rest (Binder hello output)
on_finished test rest (Export name label context asked output) = rest (Export name label context asked output)

abbrev pub on_check : (ℕ → List ℕ → Bool) → (Call → Bool) → Call → Bool
on_check test rest (Begin suite kind psk) = rest (Begin suite kind psk)
on_check test rest (Feed message) = rest (Feed message)
on_check test rest Early = rest Early
on_check test rest (Handshake group secret) = rest (Handshake group secret)
on_check test rest Application = rest Application
on_check test rest Complete = rest Complete
on_check test rest (Update side) = rest (Update side)
on_check test rest Close = rest Close
on_check test rest (Keys name output) = rest (Keys name output)
on_check test rest (Finished side output) = rest (Finished side output)
on_check test rest (Check side received) = test side received
on_check test rest (Binder hello output) = rest (Binder hello output)
on_check test rest (Export name label context asked output) = rest (Export name label context asked output)

abbrev pub on_binder : (List ℕ → List ℕ → Bool) → (Call → Bool) → Call → Bool
on_binder test rest (Begin suite kind psk) = rest (Begin suite kind psk)
on_binder test rest (Feed message) = rest (Feed message)
on_binder test rest Early = rest Early
on_binder test rest (Handshake group secret) = rest (Handshake group secret)
on_binder test rest Application = rest Application
on_binder test rest Complete = rest Complete
on_binder test rest (Update side) = rest (Update side)
on_binder test rest Close = rest Close
on_binder test rest (Keys name output) = rest (Keys name output)
on_binder test rest (Finished side output) = rest (Finished side output)
on_binder test rest (Check side received) = rest (Check side received)
on_binder test rest (Binder hello output) = test hello output
on_binder test rest (Export name label context asked output) = rest (Export name label context asked output)

abbrev pub on_export : (ℕ → List ℕ → List ℕ → ℕ → List ℕ → Bool) → (Call → Bool) → Call → Bool
on_export test rest (Begin suite kind psk) = rest (Begin suite kind psk)
on_export test rest (Feed message) = rest (Feed message)
on_export test rest Early = rest Early
on_export test rest (Handshake group secret) = rest (Handshake group secret)
on_export test rest Application = rest Application
on_export test rest Complete = rest Complete
on_export test rest (Update side) = rest (Update side)
on_export test rest Close = rest Close
on_export test rest (Keys name output) = rest (Keys name output)
on_export test rest (Finished side output) = rest (Finished side output)
on_export test rest (Check side received) = rest (Check side received)
on_export test rest (Binder hello output) = rest (Binder hello output)
on_export test rest (Export name label context asked output) = test name label context asked output
