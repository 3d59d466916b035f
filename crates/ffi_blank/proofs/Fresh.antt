-- What is promised of bytes that are made a fresh session.
use Prim.Native.Nat.{ℕ}
use mathlib.Core.Bool.{cond}
use mathlib.Core.Path.{◌≡◌, refl, ap, ◌∙◌}
use mathlib.Core.List.{List}
use lib.ListN.{length}
use lib.Dec.{eqb}
use borrow.Author.Tests.{eq-eqb}
use Rattle.book.specs.Book.{blank_at, fresh}
use Rattle.session.specs.declared.Session.{Session}
use Rattle.session.specs.Session.{session_of}
use Rattle.encoding.specs.Encoding.{session_bytes, encoded}
use Rattle.lent.specs.Called.{MadeFresh, not_a_session}

pub freshly : (before : List ℕ) {s : Session} {after : List ℕ} → length before ≡ session_bytes → s ≡ session_of (blank_at fresh)
    → after ≡ cond (eqb (length before) session_bytes) (encoded s) before → MadeFresh before after 0
freshly before n es ea =
    record { another_size = λ h. absurd (h n); made = λ _. (refl, (rw (eq-eqb _ _ n) at ea) ∙ ap encoded es) }

pub not-fresh : (before : List ℕ) → (length before ≡ session_bytes → ⊥) → MadeFresh before before not_a_session
not-fresh before h = record { another_size = λ _. (refl, refl); made = λ n. absurd (h n) }
