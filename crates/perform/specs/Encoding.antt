-- A list of calls as bytes: records, one behind the other. A record is a header of 20 bytes (kind and small number, 1 byte
-- each; wide number, 2 bytes; the sizes of two byte strings, the length asked for and the room of the output, 4 bytes each,
-- little-endian) and the two byte strings behind it. The outputs are parts of one lent buffer, one behind the other.
use Rattle.std.specs.Prelude.{ℕ, zero, suc, ◌+◌, Bool, cond, ◌&&◌, List, [], ◌∷◌, length, get_or, take, drop, eqb, leb}
use Rattle.frames.specs.Frames.{number_at}
use Rattle.book.specs.Call.{Call}
use Rattle.book.specs.Call.Call.{Begin, Feed, Early, Handshake, Application, Complete, Update, Close, Keys, Finished, Check, Binder, Export}
use Rattle.perform.specs.declared.encoded.Header.{Header}

-- the header at index at
unfoldable pub header_at : List ℕ → ℕ → Header
header_at list at =
    record {
      kind = get_or list at 0;
      small = get_or list (at + 1) 0;
      wide = number_at 2 list (at + 2);
      first = number_at 4 list (at + 4);
      second = number_at 4 list (at + 8);
      asked = number_at 4 list (at + 12);
      room = number_at 4 list (at + 16);
    }

-- The call of each kind. The small number is a PSK kind, side or name, the wide one a suite or group; any other kind is Close.
unfoldable pub call_of : (kind small wide asked : ℕ) (first second output : List ℕ) → Call
call_of kind small wide asked first second output =
    cond (eqb kind 1) (Begin wide small first)
    (cond (eqb kind 2) (Feed first)
    (cond (eqb kind 3) Early
    (cond (eqb kind 4) (Handshake wide first)
    (cond (eqb kind 5) Application
    (cond (eqb kind 6) Complete
    (cond (eqb kind 7) (Update small)
    (cond (eqb kind 9) (Keys small output)
    (cond (eqb kind 10) (Finished small output)
    (cond (eqb kind 11) (Check small first)
    (cond (eqb kind 12) (Binder first output)
    (cond (eqb kind 13) (Export small first second asked output) Close)))))))))))

-- the call of the record at index at, with its output behind the first used bytes of lent
unfoldable pub call_at : Header → List ℕ → List ℕ → ℕ → ℕ → Call
call_at h list lent at used =
    call_of h.kind h.small h.wide h.asked (take h.first (drop (at + 20) list))
    (take h.second (drop (at + 20 + h.first) list))
    (take h.room (drop used lent))

-- whether the byte strings and the output are all there
unfoldable pub fits : Header → (size lent at used : ℕ) → Bool
fits h size lent at used = leb (at + 20 + h.first + h.second) size && leb (used + h.room) lent

-- The calls from index at on; a record that does not fit ends the list. No record is empty, so that as many steps as there
-- are bytes are enough.
unfoldable pub decoded_from : ℕ → List ℕ → List ℕ → ℕ → ℕ → List Call
decoded_from zero list lent at used = []
decoded_from (suc n) list lent at used =
    cond (fits (header_at list at) (length list) (length lent) at used)
    (call_at (header_at list at) list lent at used
    ∷ decoded_from n list lent (at + 20 + (header_at list at).first + (header_at list at).second) (used + (header_at list at).room))
    []

abbrev pub decoded : List ℕ → List ℕ → List Call
decoded list lent = decoded_from (length list) list lent 0 0
