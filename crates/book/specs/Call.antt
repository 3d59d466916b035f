-- Document 01, "The calls of a session": the thirteen calls, each with its inputs. `lent` is what lies in the output that a
-- writing call is lent.
use Rattle.std.specs.Prelude.{ℕ, List, []}

pub data Call : Type 0 where
  Begin : (suite kind : ℕ) (psk : List ℕ) → Call
  Feed : (message : List ℕ) → Call
  Early : Call
  Handshake : (group : ℕ) (secret : List ℕ) → Call
  Application : Call
  Complete : Call
  Update : (side : ℕ) → Call
  Close : Call
  Keys : (name : ℕ) (output : List ℕ) → Call
  Finished : (side : ℕ) (output : List ℕ) → Call
  Check : (side : ℕ) (received : List ℕ) → Call
  Binder : (hello output : List ℕ) → Call
  Export : (name : ℕ) (label context : List ℕ) (asked : ℕ) (output : List ℕ) → Call

unfoldable pub lent : Call → List ℕ
lent (Begin suite kind psk) = []
lent (Feed message) = []
lent Early = []
lent (Handshake group secret) = []
lent Application = []
lent Complete = []
lent (Update side) = []
lent Close = []
lent (Keys name output) = output
lent (Finished side output) = output
lent (Check side received) = []
lent (Binder hello output) = output
lent (Export name label context asked output) = output
