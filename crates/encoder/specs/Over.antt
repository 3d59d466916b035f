-- A run of writes into a buffer, one behind the other.
use Rattle.std.specs.Prelude.{ℕ, ◌+◌, List, ◌≡◌, length}
use Rattle.buffer.specs.Buffer.{overwrite}

-- From index base on, the n bytes of p stand in buf, which was old; at is the index behind them.
pub record Over (base : ℕ) (old buf : List ℕ) (at : ℕ) (p : List ℕ) (n : ℕ) : Type 0 where
  pub size : length p ≡ n
  pub upto : at ≡ base + n
  pub bytes : buf ≡ overwrite base p old
