-- Bytes as hex digits.
use Rattle.std.specs.Prelude.{ℕ, suc, ◌+◌, ◌-◌, ◌*◌, ◌/◌, ◌%◌, cond, ◌&&◌, List, [], ◌∷◌, length, eqb, leb, ltb, Option, None, Some, Result, Ok, Err}
use Rattle.buffer.specs.Buffer.{fronted}
use Rattle.hex_text.specs.declared.BadDigit.{BadDigit}

-- the value of a digit: 0 to 9, a to f, A to F; 16 where c is none
unfoldable pub hex_value : ℕ → ℕ
hex_value c =
    cond (leb 48 c && leb c 57) (c - 48)
    (cond (leb 97 c && leb c 102) (c - 87)
    (cond (leb 65 c && leb c 70) (c - 55) 16))

-- that value, where c is a digit
unfoldable pub read_digit : ℕ → Option ℕ
read_digit c = cond (eqb (hex_value c) 16) None (Some (hex_value c))

-- the lower-case digit of n % 16
unfoldable pub hex_digit : ℕ → ℕ
hex_digit n = cond (ltb (n % 16) 10) (48 + n % 16) (87 + n % 16)

-- two digits a byte
unfoldable pub hex_of : List ℕ → List ℕ
hex_of [] = []
hex_of (b ∷ bs) = hex_digit (b / 16) ∷ hex_digit b ∷ hex_of bs

-- how many digits s starts with
unfoldable pub hex_run : List ℕ → ℕ
hex_run [] = 0
hex_run (c ∷ cs) = cond (eqb (hex_value c) 16) 0 (suc (hex_run cs))

-- the bytes of a list of digits
unfoldable pub unhex : List ℕ → List ℕ
unhex [] = []
unhex (a ∷ []) = []
unhex (a ∷ b ∷ cs) = (hex_value a * 16 + hex_value b) ∷ unhex cs

-- the index of a character that was not read
abbrev pub bad : ℕ → Result ℕ BadDigit
bad i = Err (record { at = i })

-- s read as hex where there is room for that many bytes: their number, or the index of the first character that is
-- no digit, finds no room, or is missing
unfoldable pub read_hex : List ℕ → ℕ → Result ℕ BadDigit
read_hex s room =
    cond (ltb room (hex_run s / 2)) (bad (room * 2))
    (cond (ltb (hex_run s) (length s)) (bad (hex_run s))
    (cond (eqb (hex_run s % 2) 0) (Ok (hex_run s / 2)) (bad (hex_run s))))

-- the output after it: the bytes at its front, or no change
unfoldable pub out_of : Result ℕ BadDigit → List ℕ → List ℕ → List ℕ
out_of (Ok n) s out = fronted (unhex s) out
out_of (Err e) s out = out
