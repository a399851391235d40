-- What contracts see of the variables of a process.
use Rattle.std.specs.Prelude.{ℕ, List}
use Rattle.pm_vars.specs.Variables.{Variable}
use Rattle.pm_vars.specs.declared.marks.Marks.{Marks}

-- the variables in order, the arguments, and the values of `$$`, `$?`, `$=` and `$_`
pub record Table : Type 0 where
  pub variables : List Variable
  pub arguments : List (List ℕ)
  pub marks : Marks
