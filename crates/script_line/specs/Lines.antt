-- What a line means: a call with its body.
use Rattle.std.specs.Prelude.{ℕ, ◌-◌, ◌≡◌, cond, List, [], length, get_or, take, eqb, Option, None, Some, Result, Ok, Err}
use Rattle.buffer.specs.Buffer.{fronted}
use Rattle.hex_text.specs.declared.BadDigit.{BadDigit}
use Rattle.journal.specs.declared.record.Call.{Call}
use Rattle.script_line.specs.declared.fault.Fault.{Fault}
use Rattle.script_line.specs.declared.heading.Heading.{Heading}
use Rattle.script_line.specs.declared.heading.Heading.TheVariants as heading
use Rattle.script_line.specs.declared.line.Item.{Item}
use Rattle.script_line.specs.Words.{word}
use Rattle.script_line.specs.Fields.{read_body, body_of}
use Rattle.script_line.specs.Headings.{heading_of}

pub data Meaning : Type 0 where
  nothing : Meaning
  wrong : Fault → Meaning
  says : Call → List ℕ → Meaning

-- the length of a line without a carriage return at its end, and the line so cut
unfoldable pub content_len : List ℕ → ℕ
content_len s = cond (eqb (get_or s (length s - 1) 0) 13) (length s - 1) (length s)

abbrev pub content : List ℕ → List ℕ
content s = take (content_len s) s

-- a call whose bytes were read
abbrev pub carried : Result ℕ BadDigit → Call → List ℕ → Fault → Meaning
carried (Ok n) call body why = says call body
carried (Err e) call body why = wrong why

abbrev pub meant : Result Heading Fault → List ℕ → ℕ → Meaning
meant (Ok heading.Blank) s room = nothing
meant (Err why) s room = wrong why
meant (Ok (heading.Bare call)) s room = says call []
meant (Ok (heading.Carried call k why)) s room = carried (read_body (word k s) room) call (body_of (word k s)) why

-- a line, where there is room for that many bytes of a body
unfoldable pub meaning : List ℕ → ℕ → Meaning
meaning s room = meant (heading_of (content s)) (content s) room

-- what is answered of a meaning, and the body that it has
abbrev pub line_of : Meaning → Result (Option Item) Fault
line_of nothing = Ok None
line_of (wrong why) = Err why
line_of (says call body) = Ok (Some (record { call = call; size = length body }))

abbrev pub body_in : Meaning → List ℕ
body_in nothing = []
body_in (wrong why) = []
body_in (says call body) = body

-- A line of that meaning was read: the answer r, and the body's bytes at the front of what was lent, all others as they
-- were.
pub record Read (m : Meaning) (old : List ℕ) (r : Result (Option Item) Fault) (after : List ℕ) : Type 0 where
  pub answer : r ≡ line_of m
  pub bytes : after ≡ fronted (body_in m) old
