-- Every list of calls has an encoding, so that `perform` can make it.
use Rattle.std.specs.Prelude.{ℕ, ◌<◌, ◌^◌, List, [], ◌∷◌, ◌++◌, ◌≡◌, length}
use Rattle.buffer.specs.Buffer.{Bytes}
use Rattle.buffer.specs.Numbers.{le}
use Rattle.book.specs.Call.{Call, lent}
use Rattle.book.specs.Call.Call.{Begin, Feed, Early, Handshake, Application, Complete, Update, Close, Keys, Finished, Check, Binder, Export}
use Rattle.perform.specs.Encoding.{decoded}

-- a header, and the two byte strings behind it
unfoldable pub record_for : (kind small wide asked : ℕ) (first second output : List ℕ) → List ℕ
record_for kind small wide asked first second output =
    kind ∷ small ∷ (le 2 wide ++ (le 4 (length first) ++ (le 4 (length second) ++ (le 4 asked ++ (le 4 (length output) ++ (first ++ second))))))

unfoldable pub record_of : Call → List ℕ
record_of (Begin suite kind psk) = record_for 1 kind suite 0 psk [] []
record_of (Feed message) = record_for 2 0 0 0 message [] []
record_of Early = record_for 3 0 0 0 [] [] []
record_of (Handshake group secret) = record_for 4 0 group 0 secret [] []
record_of Application = record_for 5 0 0 0 [] [] []
record_of Complete = record_for 6 0 0 0 [] [] []
record_of (Update side) = record_for 7 side 0 0 [] [] []
record_of Close = record_for 8 0 0 0 [] [] []
record_of (Keys name output) = record_for 9 name 0 0 [] [] output
record_of (Finished side output) = record_for 10 side 0 0 [] [] output
record_of (Check side received) = record_for 11 side 0 0 received [] []
record_of (Binder hello output) = record_for 12 0 0 0 hello [] output
record_of (Export name label context asked output) = record_for 13 name 0 asked label context output

-- the records of a list, and the outputs lent to it, each one behind the other
unfoldable pub encoded : List Call → List ℕ
encoded [] = []
encoded (c ∷ cs) = record_of c ++ encoded cs

unfoldable pub outputs : List Call → List ℕ
outputs [] = []
outputs (c ∷ cs) = lent c ++ outputs cs

-- A call that can be made: its numbers fit their types, and its slices hold bytes. The header's fields of 4 bytes keep a slice,
-- and the length asked for, below 2^32.
abbrev pub Slice : List ℕ → Type 0
Slice bs = Bytes bs × (length bs < 2 ^ 32)

abbrev pub Possible : Call → Type 0
Possible (Begin suite kind psk) = (suite < 2 ^ 16) × (kind < 2 ^ 8) × Slice psk
Possible (Feed message) = Slice message
Possible Early = Unit
Possible (Handshake group secret) = (group < 2 ^ 16) × Slice secret
Possible Application = Unit
Possible Complete = Unit
Possible (Update side) = side < 2 ^ 8
Possible Close = Unit
Possible (Keys name output) = (name < 2 ^ 8) × Slice output
Possible (Finished side output) = (side < 2 ^ 8) × Slice output
Possible (Check side received) = (side < 2 ^ 8) × Slice received
Possible (Binder hello output) = Slice hello × Slice output
Possible (Export name label context asked output) = (name < 2 ^ 8) × Slice label × Slice context × (asked < 2 ^ 32) × Slice output

abbrev pub AllPossible : List Call → Type 0
AllPossible [] = Unit
AllPossible (c ∷ cs) = Possible c × AllPossible cs

-- The encoding and the outputs are bytes, and are decoded as the list: `perform` makes these calls.
abbrev pub EveryListIsEncoded : Type 0
EveryListIsEncoded = (cs : List Call) → AllPossible cs → Bytes (encoded cs) × Bytes (outputs cs) × (decoded (encoded cs) (outputs cs) ≡ cs)
