-- Numbers and bytes as the fields of a line have them.
use Rattle.std.specs.Prelude.{ℕ, ◌+◌, ◌*◌, cond, List, [], ◌∷◌, length, eqb, ltb, codes, Option, None, Some, Result, Ok, Err}
use Rattle.std.specs.Str.{bytes_eq}
use Rattle.buffer.specs.Buffer.{fronted}
use Rattle.hex_text.specs.Hex.{hex_value, unhex, read_hex}
use Rattle.hex_text.specs.declared.BadDigit.{BadDigit}
use Rattle.text.specs.Decimal.{read_decimal}

-- n, and then the hex digits s
unfoldable pub hex_on : ℕ → List ℕ → Option ℕ
hex_on n [] = Some n
hex_on n (c ∷ cs) = cond (eqb (hex_value c) 16) None (hex_on (n * 16 + hex_value c) cs)

-- a number of 1 to 4 hex digits
unfoldable pub hex_number : List ℕ → Option ℕ
hex_number s = cond (eqb (length s) 0) None (cond (ltb 4 (length s)) None (hex_on 0 s))

-- a decimal number of at most 255
abbrev pub small_of : Option ℕ → Option ℕ
small_of (Some n) = cond (ltb 255 n) None (Some n)
small_of None = None

unfoldable pub small_number : List ℕ → Option ℕ
small_number s = small_of (read_decimal s)

-- "-", which stands for no bytes
abbrev pub dash : List ℕ
dash = codes "-"

-- bytes: two hex digits each, or a dash; how many there are, where there is room for that many
unfoldable pub read_body : List ℕ → ℕ → Result ℕ BadDigit
read_body s room = cond (bytes_eq s dash) (Ok 0) (read_hex s room)

unfoldable pub body_of : List ℕ → List ℕ
body_of s = cond (bytes_eq s dash) [] (unhex s)

-- the output after they were read: they stand at its front, or it has not changed
unfoldable pub kept : Result ℕ BadDigit → List ℕ → List ℕ → List ℕ
kept (Ok n) body out = fronted body out
kept (Err e) body out = out
