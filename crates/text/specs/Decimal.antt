-- Numbers as decimal digits.
use Rattle.std.specs.Prelude.{ℕ, zero, suc, ◌+◌, ◌-◌, ◌*◌, ◌/◌, ◌%◌, cond, ◌&&◌, List, [], ◌∷◌, ◌++◌, length, eqb, leb, ltb, Option, None, Some}

-- the digits of a number that has at most that many, without leading zeros; 0 is one digit
unfoldable pub digits_of : ℕ → ℕ → List ℕ
digits_of zero n = []
digits_of (suc most) n = cond (ltb n 10) ((48 + n) ∷ []) (digits_of most (n / 10) ++ ((48 + n % 10) ∷ []))

-- the digits of a number below 10 ^ 20
unfoldable pub decimal_of : ℕ → List ℕ
decimal_of n = digits_of 20 n

-- the largest number that is read
abbrev pub max_decimal : ℕ
max_decimal = 4294967295

-- the value of a digit, 10 where c is none
unfoldable pub decimal_value : ℕ → ℕ
decimal_value c = cond (leb 48 c && leb c 57) (c - 48) 10

-- that value, where c is a digit
unfoldable pub read_digit : ℕ → Option ℕ
read_digit c = cond (eqb (decimal_value c) 10) None (Some (decimal_value c))

-- n, and then the digits s
unfoldable pub read_on : ℕ → List ℕ → Option ℕ
read_on n [] = Some n
read_on n (c ∷ cs) =
    let next = n * 10 + decimal_value c in
    cond (eqb (decimal_value c) 10) None
    (cond (ltb max_decimal next) None (read_on next cs))

-- s read as a number: at least one digit
unfoldable pub read_decimal : List ℕ → Option ℕ
read_decimal s = cond (eqb (length s) 0) None (read_on 0 s)
