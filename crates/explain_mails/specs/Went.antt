-- What a run came to.
use Rattle.std.specs.Prelude.{ℕ, List}

-- the names of the destinations of a mail, and the exit status
pub record Went : Type 0 where
  pub names : List (List ℕ)
  pub status : ℕ
