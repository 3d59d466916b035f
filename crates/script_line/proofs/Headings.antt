-- That the call of a line can be written.
use Prim.Native.Nat.{ℕ, ◌+◌, ◌*◌, ◌≤◌, ◌<◌}
use mathlib.Core.Bool.{Bool, true, false, cond, ◌&&◌}
use mathlib.Core.Path.{◌≡◌, refl}
use mathlib.Core.List.{List, [], ◌∷◌}
use native.Mathlib.Omega.{arith}
use lib.Dec.{eqb, leb, ltb}
use lib.ListN.{length, get_or}
use borrow.Author.Tests.{leb-true, eqb-false, ltb-false}
use Rattle.std.specs.Prelude.{codes, Option, None, Some, Result, Ok, Err}
use Rattle.std.specs.Result.{result_and}
use Rattle.std.specs.Str.{bytes_eq}
use Rattle.refusal.proofs.Laws.{and-true}
use Rattle.hex_text.specs.Hex.{hex_value}
use Rattle.journal.specs.Calls.{Fits}
use Rattle.script_line.specs.declared.fault.Fault.{Fault}
use Rattle.script_line.specs.declared.heading.Heading.{Heading}
use Rattle.script_line.specs.declared.heading.Heading.TheVariants.{Blank, Bare, Carried}
use Rattle.script_line.specs.Words.{word}
use Rattle.script_line.specs.Fields.{hex_on, hex_number, small_number}
use Rattle.script_line.specs.Headings.{counted, begin_by, begin_of, handshake_by, handshake_of, update_by, update_of, named_of, heading_of}

-- A number of at most 4 hex digits has 2 bytes.
cond_least : (t : Bool) (x y k : ℕ) → (t ≡ true → x ≤ k) → y ≤ k → cond t x y ≤ k
cond_least true x y k h g = h refl
cond_least false x y k h g = g

value_least : (c : ℕ) → hex_value c ≤ 16
unfolding hex_value
value_least c =
    cond_least (leb 48 c && leb c 57) _ _ 16 (λ e. let l : c ≤ 57 = leb-true _ _ (and-true (leb 48 c) (leb c 57) e).1 in omega arith)
    (cond_least (leb 97 c && leb c 102) _ _ 16 (λ e. let l : c ≤ 102 = leb-true _ _ (and-true (leb 97 c) (leb c 102) e).1 in omega arith)
    (cond_least (leb 65 c && leb c 70) _ _ 16 (λ e. let l : c ≤ 70 = leb-true _ _ (and-true (leb 65 c) (leb c 70) e).1 in omega arith) (omega arith)))

-- headings whose call can be written
abbrev pub CallFits : Result Heading Fault → Type 0
CallFits (Err why) = Unit
CallFits (Ok Blank) = Unit
CallFits (Ok (Bare call)) = Fits call
CallFits (Ok (Carried call k why)) = Fits call

pub record Fitting (h : Result Heading Fault) : Type 0 where
  pub fits : CallFits h

-- numbers of 2 bytes
abbrev Small2 : Option ℕ → Type 0
Small2 (Some n) = n < 65536
Small2 None = Unit

digit : (t : Bool) (v : ℕ) (x : Option ℕ) → eqb v 16 ≡ t → v ≤ 16 → (v < 16 → Small2 x) → Small2 (cond t None x)
digit true v x e l f = tt
digit false v x e l f = let n : v ≡ 16 → ⊥ = eqb-false _ _ e in f (omega arith)

module _ (n c : ℕ) (cs : List ℕ) where
  next : (hex_value c < 16 → Small2 (hex_on (n * 16 + hex_value c) cs)) → Small2 (hex_on n (c ∷ cs))
  unfolding hex_on
  next f = digit (eqb (hex_value c) 16) (hex_value c) (hex_on (n * 16 + hex_value c) cs) refl (value_least c) f

last : (n : ℕ) → n < 65536 → Small2 (hex_on n [])
unfolding hex_on
last n h = h

fits_on : (s : List ℕ) → length s ≤ 4 → Small2 (hex_on 0 s)
fits_on [] l = last 0 (omega arith)
fits_on (a ∷ []) l = next _ _ _ (λ p. last _ (omega arith))
fits_on (a ∷ b ∷ []) l = next _ _ _ (λ p. next _ _ _ (λ q. last _ (omega arith)))
fits_on (a ∷ b ∷ c ∷ []) l = next _ _ _ (λ p. next _ _ _ (λ q. next _ _ _ (λ r. last _ (omega arith))))
fits_on (a ∷ b ∷ c ∷ d ∷ []) l = next _ _ _ (λ p. next _ _ _ (λ q. next _ _ _ (λ r. next _ _ _ (λ s. last _ (omega arith)))))
fits_on (a ∷ b ∷ c ∷ d ∷ e ∷ s) l = absurd (omega arith)

number_by : (t u : Bool) (x : Option ℕ) → (u ≡ false → Small2 x) → Small2 (cond t None (cond u None x))
number_by true u x f = tt
number_by false true x f = tt
number_by false false x f = f refl

number_fits : (s : List ℕ) → Small2 (hex_number s)
unfolding hex_number
number_fits s = number_by (eqb (length s) 0) (ltb 4 (length s)) (hex_on 0 s) (λ e. fits_on s (ltb-false _ _ e))

begin_by_lem : (x : Option ℕ) (y : Option ℕ) → Small2 x → Fitting (begin_by x y)
begin_by_lem None y f = record { fits = tt }
begin_by_lem (Some n) None f = record { fits = tt }
begin_by_lem (Some n) (Some k) f = record { fits = f }

handshake-by : (x : Option ℕ) → Small2 x → Fitting (handshake_by x)
handshake-by None f = record { fits = tt }
handshake-by (Some n) f = record { fits = f }

update_by_lem : (x : Option ℕ) → Fitting (update_by x)
update_by_lem None = record { fits = tt }
update_by_lem (Some n) = record { fits = tt }

begin_fits : (line : List ℕ) → Fitting (begin_of line)
unfolding begin_of
begin_fits line = begin_by_lem (hex_number (word 1 line)) (small_number (word 2 line)) (number_fits (word 1 line))

handshake-fits : (line : List ℕ) → Fitting (handshake_of line)
unfolding handshake_of
handshake-fits line = handshake-by (hex_number (word 1 line)) (number_fits (word 1 line))

update_fits : (line : List ℕ) → Fitting (update_of line)
unfolding update_of
update_fits line = update_by_lem (small_number (word 1 line))

either_fits : (t : Bool) {x y : Result Heading Fault} → Fitting x → Fitting y → Fitting (cond t x y)
either_fits true f g = f
either_fits false f g = g

and_fits : (r : Result (Unit {0}) Fault) {h : Result Heading Fault} → Fitting h → Fitting (result_and r h)
and_fits (Ok x) f = f
and_fits (Err why) f = record { fits = tt }

named_fits : (name line : List ℕ) → Fitting (named_of name line)
unfolding named_of
named_fits name line =
    either_fits (bytes_eq name (codes "begin")) (and_fits (counted line 3) (begin_fits line))
    (either_fits (bytes_eq name (codes "feed")) (and_fits (counted line 1) (record { fits = tt }))
    (either_fits (bytes_eq name (codes "early")) (and_fits (counted line 0) (record { fits = tt }))
    (either_fits (bytes_eq name (codes "handshake")) (and_fits (counted line 2) (handshake-fits line))
    (either_fits (bytes_eq name (codes "application")) (and_fits (counted line 0) (record { fits = tt }))
    (either_fits (bytes_eq name (codes "complete")) (and_fits (counted line 0) (record { fits = tt }))
    (either_fits (bytes_eq name (codes "update")) (and_fits (counted line 1) (update_fits line))
    (either_fits (bytes_eq name (codes "close")) (and_fits (counted line 0) (record { fits = tt })) (record { fits = tt }))))))))

pub heading_fits : (line : List ℕ) → Fitting (heading_of line)
unfolding heading_of
heading_fits line =
    either_fits (eqb (length (word 0 line)) 0) (record { fits = tt })
    (either_fits (eqb (get_or (word 0 line) 0 0) 35) (record { fits = tt }) (named_fits (word 0 line) line))
