-- Encoding and decoding undo each other: the claims that proofs/Inverse shows.
use Rattle.std.specs.Prelude.{ℕ, ◌<◌, ◌^◌, ◌≡◌, List, length, get_or}
use Rattle.buffer.specs.Buffer.{Bytes}
use Rattle.suite_hash.specs.declared.running.Running.{Running}
use Rattle.session.specs.declared.Session.{Session}
use Rattle.encoding.specs.Encoding.{session_bytes, encoded, decoded}

-- What every session record of the code has: each number fits its field, and each array has its length.
pub record RunningFits (h : Running) : Type 0 where
  pub state : length h.state ≡ 8
  pub words : (i : ℕ) → get_or h.state i 0 < 2 ^ 64
  pub block : length h.block ≡ 128
  pub count : h.count < 2 ^ 64

pub record SessionFits (s : Session) : Type 0 where
  pub suite : s.suite < 2 ^ 16
  pub kind : s.kind < 2 ^ 8
  pub early : s.early < 2 ^ 8
  pub point : s.point < 2 ^ 16
  pub stage : s.stage < 2 ^ 16
  pub client_updates : s.client_updates < 2 ^ 32
  pub server_updates : s.server_updates < 2 ^ 32
  pub transcript : RunningFits s.transcript
  pub chain : length s.chain ≡ 48
  pub binder_key : length s.binder_key ≡ 48
  pub client_early : length s.client_early ≡ 48
  pub early_exporter : length s.early_exporter ≡ 48
  pub client_handshake : length s.client_handshake ≡ 48
  pub server_handshake : length s.server_handshake ≡ 48
  pub client_application : length s.client_application ≡ 48
  pub server_application : length s.server_application ≡ 48
  pub exporter : length s.exporter ≡ 48
  pub resumption : length s.resumption ≡ 48

-- The claims: what is decoded from the encoding of a session is that session, and what is encoded from the session of
-- session_bytes bytes are those bytes.
abbrev pub DecodesWhatItEncodes : Type 0
DecodesWhatItEncodes = (s : Session) → SessionFits s → (length (encoded s) ≡ session_bytes) × (decoded (encoded s) ≡ s)

abbrev pub EncodesWhatItDecodes : Type 0
EncodesWhatItDecodes = (bs : List ℕ) → length bs ≡ session_bytes → Bytes bs → encoded (decoded bs) ≡ bs
