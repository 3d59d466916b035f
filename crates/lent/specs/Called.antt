-- What an exported call on the bytes of a session does.
use Rattle.std.specs.Prelude.{ℕ, false, cond, List, [], ◌≡◌, length, eqb, Result, Ok, Err}
use Rattle.refusal.specs.declared.Refusal.{Refusal}
use Rattle.book.specs.Call.{Call}
use Rattle.book.specs.Book.{blank_at, fresh}
use Rattle.session.specs.declared.Session.{Session}
use Rattle.session.specs.Session.{session_of}
use Rattle.session.specs.Promise.{Reply, Done}
use Rattle.encoding.specs.Encoding.{session_bytes, encoded, decoded}

-- what is answered where the buffer does not have a session's size; no refusal has this number
abbrev pub not_a_session : ℕ
not_a_session = 255

-- the reply of a call that writes nothing, of one that writes, and of one that says yes (1) or no
abbrev pub numbered : ℕ → Reply
numbered n = record { number = n; count = 0; verdict = false; output = [] }

abbrev pub counted : ℕ → ℕ → List ℕ → Reply
counted n written output = record { number = n; count = written; verdict = false; output = output }

abbrev pub judging : ℕ → ℕ → Reply
judging n said = record { number = n; count = 0; verdict = eqb said 1; output = [] }

-- the session's bytes after a call that gave r: those of the next session, or, where it was refused, those before it
abbrev pub stored : Result Session Refusal → List ℕ → List ℕ
stored (Ok next) before = cond (eqb (length before) session_bytes) (encoded next) before
stored (Err why) before = before

-- The call c on the session's bytes before, which left the bytes after and gave that reply; out is the output that it was lent.
pub record Called (before : List ℕ) (c : Call) (out after : List ℕ) (given : Reply) : Type 0 where
  -- A buffer of another size: nothing is done.
  pub another_size : (length before ≡ session_bytes → ⊥) → (after ≡ before) × (given ≡ counted not_a_session 0 out)
  -- Else all that the call promises of the session that the bytes encode, and the bytes after it encode the session after it.
  pub called : length before ≡ session_bytes → (s : Session) × (Done (decoded before) c s given) × (after ≡ encoded s)
  -- A call that is not accepted changes no byte.
  pub refused : (given.number ≡ 0 → ⊥) → after ≡ before

-- Bytes that are made a fresh session.
pub record MadeFresh (before after : List ℕ) (r : ℕ) : Type 0 where
  pub another_size : (length before ≡ session_bytes → ⊥) → (r ≡ not_a_session) × (after ≡ before)
  pub made : length before ≡ session_bytes → (r ≡ 0) × (after ≡ encoded (session_of (blank_at fresh)))
