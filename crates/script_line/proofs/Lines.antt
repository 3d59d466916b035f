-- What a line means.
use Prim.Native.Nat.{ℕ}
use mathlib.Core.Path.{◌≡◌, refl, ap}
use mathlib.Core.List.{List, []}
use Rattle.std.specs.Prelude.{Some, Result, Ok, Err}
use Rattle.buffer.specs.Buffer.{fronted}
use Rattle.hex_text.specs.declared.BadDigit.{BadDigit}
use Rattle.journal.specs.declared.record.Call.{Call}
use Rattle.journal.specs.Calls.{Fits}
use Rattle.script_line.specs.declared.fault.Fault.{Fault}
use Rattle.script_line.specs.declared.heading.Heading.{Heading}
use Rattle.script_line.specs.declared.heading.Heading.TheVariants as heading
use Rattle.script_line.specs.Words.{word}
use Rattle.script_line.specs.Fields.{read_body, body_of, kept}
use Rattle.script_line.specs.Headings.{heading_of}
use Rattle.script_line.specs.Lines.{Meaning, content, carried, meant, meaning, line_of, body_in, Read}
use Rattle.script_line.specs.Lines.Meaning.{nothing, wrong, says}
use Rattle.script_line.proofs.Fields.{body-length}
use Rattle.script_line.proofs.Headings.{CallFits, heading_fits}

-- a line that was read, by what its heading is
module _ (s : List ℕ) (room : ℕ) (old : List ℕ) {x : List ℕ} (ex : x ≡ content s) where
  meaning_is : {h : Result Heading Fault} → h ≡ heading_of x → meant h x room ≡ meaning s room
  unfolding meaning
  meaning_is e = rw (← ex, ← e)

  pub read_plain : {h : Result Heading Fault} → h ≡ heading_of x → body_in (meant h x room) ≡ [] → Read (meaning s room) old (line_of (meant h x room)) old
  unfolding fronted
  read_plain {h} e b = rw (← meaning_is e) (record { answer = refl; bytes = rw b })

  module _ {call : Call} {k : ℕ} {why : Fault} (e : Ok (heading.Carried call k why) ≡ heading_of x) {w : List ℕ} (ew : w ≡ word k x) where
    carried_is : {r : Result ℕ BadDigit} → r ≡ read_body w room → carried r call (body_of w) why ≡ meaning s room
    carried_is er = rw (er, ew) (meaning_is e)

    pub read_bytes : {m : ℕ} {after : List ℕ} → Ok m ≡ read_body w room → after ≡ kept (Ok m) (body_of w) old
        → Read (meaning s room) old (Ok (Some (record { call = call; size = m }))) after
    unfolding kept
    read_bytes {m = m} er ea =
        rw (← carried_is er) (record { answer = ap (λ (n : ℕ). Ok (Some (record { call = call; size = n }))) (body-length w room m er); bytes = ea })

    pub read_wrong : {bad : BadDigit} {after : List ℕ} → Err bad ≡ read_body w room → after ≡ kept (Err bad) (body_of w) old
        → Read (meaning s room) old (Err why) after
    unfolding kept fronted
    read_wrong er ea = rw (← carried_is er) (record { answer = refl; bytes = ea })

-- the call of a line can be written
abbrev pub FitsIn : Meaning → Type 0
FitsIn nothing = Unit
FitsIn (wrong why) = Unit
FitsIn (says call body) = Fits call

carried-fits : (r : Result ℕ BadDigit) (call : Call) (body : List ℕ) (why : Fault) → Fits call → FitsIn (carried r call body why)
carried-fits (Ok n) call body why f = f
carried-fits (Err e) call body why f = tt

meant-fits : (h : Result Heading Fault) (s : List ℕ) (room : ℕ) → CallFits h → FitsIn (meant h s room)
meant-fits (Ok heading.Blank) s room f = tt
meant-fits (Err why) s room f = tt
meant-fits (Ok (heading.Bare call)) s room f = f
meant-fits (Ok (heading.Carried call k why)) s room f = carried-fits (read_body (word k s) room) call (body_of (word k s)) why f

pub meaning-fits : (s : List ℕ) (room : ℕ) → FitsIn (meaning s room)
unfolding meaning
meaning-fits s room = meant-fits (heading_of (content s)) (content s) room (heading_fits (content s)).fits
