-- What is known of an open file.
use Rattle.std.specs.Prelude.{ℕ, Bool, List, Option}
use Rattle.pm_real.specs.declared.mode.Mode.{Mode}

-- the name by which it was opened, and for what; how many of the bytes that were appended to it are there still, if any
-- were; how many were read in sequence; whether it was made as the target of a symbolic link of its name
pub record FileView : Type 0 where
  pub name : List ℕ
  pub mode : Mode
  pub added : Option ℕ
  pub passed : ℕ
  pub is_target : Bool
