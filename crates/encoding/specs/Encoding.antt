-- A session as the bytes that a caller keeps: the record's fields in their order, numbers low byte first.
use Rattle.std.specs.Prelude.{ℕ, List, ◌++◌, take, drop}
use Rattle.buffer.specs.Numbers.{le, number}
use Rattle.suite_hash.specs.declared.running.Running.{Running}
use Rattle.session.specs.declared.Session.{Session}
use Rattle.encoding.specs.Words.{le_words, words}

abbrev pub session_bytes : ℕ
session_bytes = 696

-- the first 16 bytes: the numbers
unfoldable pub encoded_numbers : Session → List ℕ
encoded_numbers s =
    le 2 s.suite ++ (le 1 s.kind ++ (le 1 s.early ++ (le 2 s.point ++ (le 2 s.stage
    ++ (le 4 s.client_updates ++ le 4 s.server_updates)))))

-- the next 200: the running hash
unfoldable pub encoded_running : Running → List ℕ
encoded_running h = le_words h.state ++ (h.block ++ le 8 h.count)

-- the last 480: the ten places
unfoldable pub encoded_places : Session → List ℕ
encoded_places s =
    s.chain ++ (s.binder_key ++ (s.client_early ++ (s.early_exporter ++ (s.client_handshake
    ++ (s.server_handshake ++ (s.client_application ++ (s.server_application ++ (s.exporter ++ s.resumption))))))))

unfoldable pub encoded : Session → List ℕ
encoded s = encoded_numbers s ++ (encoded_running s.transcript ++ encoded_places s)

-- n bytes from index at on
abbrev pub part : ℕ → ℕ → List ℕ → List ℕ
part at n bs = take n (drop at bs)

unfoldable pub decoded_running : List ℕ → Running
decoded_running bs = record { state = words 8 (drop 16 bs); block = part 80 128 bs; count = number (part 208 8 bs) }

unfoldable pub decoded : List ℕ → Session
decoded bs =
    record {
      suite = number (part 0 2 bs);
      kind = number (part 2 1 bs);
      early = number (part 3 1 bs);
      point = number (part 4 2 bs);
      stage = number (part 6 2 bs);
      client_updates = number (part 8 4 bs);
      server_updates = number (part 12 4 bs);
      transcript = decoded_running bs;
      chain = part 216 48 bs;
      binder_key = part 264 48 bs;
      client_early = part 312 48 bs;
      early_exporter = part 360 48 bs;
      client_handshake = part 408 48 bs;
      server_handshake = part 456 48 bs;
      client_application = part 504 48 bs;
      server_application = part 552 48 bs;
      exporter = part 600 48 bs;
      resumption = part 648 48 bs;
    }
