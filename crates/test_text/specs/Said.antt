-- What a test says.
use Rattle.std.specs.Prelude.{ℕ, List, Option}
use Rattle.test_text.specs.declared.answer.Answer.{Answer}
use Rattle.test_text.specs.declared.statement.Rcfile.{Rcfile}

-- a mail, what programs answer, where it is to go, and which exit status there is to be
pub record Said : Type 0 where
  pub line : ℕ
  pub mail : List ℕ
  pub answers : List Answer
  pub wanted : List (List ℕ)
  pub status : Option ℕ

-- the tests of a file, and the rcfile that they are for
pub record File : Type 0 where
  pub rcfile : Rcfile
  pub tests : List Said

-- what the lines say so far
pub record Draft : Type 0 where
  pub rcfile : Option Rcfile
  pub tests : List Said
