-- What a line says: the call by its name and numbers, and which word has its bytes.
use Rattle.std.specs.Prelude.{ℕ, ◌+◌, cond, List, length, get_or, eqb, codes, Option, None, Some, Result, Ok, Err}
use Rattle.std.specs.Result.{result_and}
use Rattle.std.specs.Str.{bytes_eq}
use Rattle.journal.specs.declared.record.Call.TheVariants as call
use Rattle.script_line.specs.declared.fault.Fault.{Fault}
use Rattle.script_line.specs.declared.fault.Fault.TheVariants as fault
use Rattle.script_line.specs.declared.heading.Heading.{Heading}
use Rattle.script_line.specs.declared.heading.Heading.TheVariants.{Blank, Bare, Carried}
use Rattle.script_line.specs.Words.{word}
use Rattle.script_line.specs.Fields.{hex_number, small_number}

-- what is wrong with a line that has not exactly k fields behind the name
unfoldable pub counted : List ℕ → ℕ → Result (Unit {0}) Fault
counted line k =
    cond (eqb (length (word k line)) 0) (Err fault.Missing)
    (cond (eqb (length (word (k + 1) line)) 0) (Ok tt) (Err fault.Extra))

-- suite, PSK kind, PSK
abbrev pub begin_by : Option ℕ → Option ℕ → Result Heading Fault
begin_by None small = Err fault.Suite
begin_by (Some suite) None = Err fault.PskKind
begin_by (Some suite) (Some kind) = Ok (Carried (call.Begin suite kind) 3 fault.Psk)

unfoldable pub begin_of : List ℕ → Result Heading Fault
begin_of line = begin_by (hex_number (word 1 line)) (small_number (word 2 line))

-- group, shared secret
abbrev pub handshake_by : Option ℕ → Result Heading Fault
handshake_by None = Err fault.Group
handshake_by (Some group) = Ok (Carried (call.Handshake group) 2 fault.Secret)

unfoldable pub handshake_of : List ℕ → Result Heading Fault
handshake_of line = handshake_by (hex_number (word 1 line))

-- side
abbrev pub update_by : Option ℕ → Result Heading Fault
update_by None = Err fault.Side
update_by (Some side) = Ok (Bare (call.Update side))

unfoldable pub update_of : List ℕ → Result Heading Fault
update_of line = update_by (small_number (word 1 line))

-- a line of that name
unfoldable pub named_of : List ℕ → List ℕ → Result Heading Fault
named_of name line =
    cond (bytes_eq name (codes "begin")) (result_and (counted line 3) (begin_of line))
    (cond (bytes_eq name (codes "feed")) (result_and (counted line 1) (Ok (Carried call.Feed 1 fault.Message)))
    (cond (bytes_eq name (codes "early")) (result_and (counted line 0) (Ok (Bare call.Early)))
    (cond (bytes_eq name (codes "handshake")) (result_and (counted line 2) (handshake_of line))
    (cond (bytes_eq name (codes "application")) (result_and (counted line 0) (Ok (Bare call.Application)))
    (cond (bytes_eq name (codes "complete")) (result_and (counted line 0) (Ok (Bare call.Complete)))
    (cond (bytes_eq name (codes "update")) (result_and (counted line 1) (update_of line))
    (cond (bytes_eq name (codes "close")) (result_and (counted line 0) (Ok (Bare call.Close))) (Err fault.Name))))))))

-- any line; one whose first word starts with # is a comment
unfoldable pub heading_of : List ℕ → Result Heading Fault
heading_of line =
    cond (eqb (length (word 0 line)) 0) (Ok Blank)
    (cond (eqb (get_or (word 0 line) 0 0) 35) (Ok Blank) (named_of (word 0 line) line))
