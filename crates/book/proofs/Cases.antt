-- Two of document 01's marked cases.
use Prim.Native.Nat.{ℕ}
use mathlib.Core.List.{List, [], ◌∷◌}
use mathlib.Core.Path.{◌≡◌, refl}
use Rattle.book.specs.Call.Call.{Handshake}
use Rattle.book.specs.Groups.{known_group, group_bytes}
use Rattle.book.specs.Book.{Book, blank_at, fresh, stage_of}
use Rattle.book.specs.Refusals.{number, handshake_number}

-- group 0 with one byte, with no PSK
pub one_byte_of_no_group : (b : Book) (x : ℕ) → b.point ≡ 1 → stage_of b ≡ 2 → number b (Handshake 0 (x ∷ [])) ≡ 4
unfolding number handshake_number known_group group_bytes
one_byte_of_no_group b x p s = rw (p, s)

pub handshake_when_fresh : (group : ℕ) (secret : List ℕ) → number (blank_at fresh) (Handshake group secret) ≡ 1
unfolding number handshake_number
handshake_when_fresh group secret = refl
