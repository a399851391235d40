-- Short files of tests, and what they say.
use Rattle.std.specs.Prelude.{◌≡◌, ℕ, List, [], ◌∷◌, Option, Some, None, codes}
use Rattle.test_text.specs.Answers.{answer_of}
use Rattle.test_text.specs.Readings.{read_tests, fault_on}
use Rattle.test_text.specs.Said.{Said}
use Rattle.test_text.specs.Statements.{statement_of}
use Rattle.test_text.specs.declared.answer.Answer.{Answer}
use Rattle.test_text.specs.declared.reading.Reading.TheVariants as reading
use Rattle.test_text.specs.declared.statement.Reason.TheVariants.{Unknown, NoName, NoArrow, NoDestination, NoStatus, NoAnswer, SecondRcfile, NoRcfile, NoTest}
use Rattle.test_text.specs.declared.statement.Statement.TheVariants.{Nothing, Rcfile, Mail, Wrong}

-- an answer with this line, code and output
abbrev pub answer : List ℕ → ℕ → Option (List ℕ) → Answer
answer line code output = record { line = line; code = code; output = output }

-- a test on this line without answers
abbrev pub said : ℕ → List ℕ → List (List ℕ) → Option ℕ → Said
said line mail wanted status = record { line = line; mail = mail; answers = []; wanted = wanted; status = status }

-- What a line says.
pub record OfLines : Type 0 where
  pub empty : statement_of 1 (codes " \t") ≡ Nothing
  pub comment : statement_of 1 (codes " # mail a -> b") ≡ Nothing
  pub rcfile : statement_of 3 (codes "rcfile  a b ") ≡ Rcfile (record { line = 3; name = codes "a b" })
  pub no_rcfile : statement_of 1 (codes "rcfile") ≡ Wrong NoName
  pub other_word : statement_of 1 (codes "rcfiles a") ≡ Wrong Unknown
  pub other_case : statement_of 1 (codes "Mail a -> b") ≡ Wrong Unknown
  pub mail : statement_of 2 (codes "mail\ta b->Mail/x") ≡ Mail (said 2 (codes "a b") (codes "Mail/x" ∷ []) None)
  pub several : statement_of 2 (codes "mail a -> b,forward c d , status 75") ≡ Mail (said 2 (codes "a") (codes "b" ∷ codes "forward c d" ∷ []) (Some 75))
  pub status_first : statement_of 2 (codes "mail a -> status 0, b") ≡ Mail (said 2 (codes "a") (codes "b" ∷ []) (Some 0))
  pub status_alone : statement_of 2 (codes "mail a -> status 255") ≡ Mail (said 2 (codes "a") [] (Some 255))
  pub no_status_word : statement_of 2 (codes "mail a -> statuses") ≡ Mail (said 2 (codes "a") (codes "statuses" ∷ []) None)
  pub answers : statement_of 2 (codes "mail a answer x=1 answer y z=0:o -> b") ≡ Mail (record { line = 2; mail = codes "a"; answers = answer (codes "x") 1 None ∷ answer (codes "y z") 0 (Some (codes "o")) ∷ []; wanted = codes "b" ∷ []; status = None })
  pub no_mail : statement_of 2 (codes "mail -> b") ≡ Wrong NoName
  pub no_arrow : statement_of 2 (codes "mail a b") ≡ Wrong NoArrow
  pub no_destination : statement_of 2 (codes "mail a ->") ≡ Wrong NoDestination
  pub two_commas : statement_of 2 (codes "mail a -> b,,c") ≡ Wrong NoDestination
  pub above_255 : statement_of 2 (codes "mail a -> b, status 256") ≡ Wrong NoStatus
  pub no_number : statement_of 2 (codes "mail a -> status x") ≡ Wrong NoStatus
  pub no_answer : statement_of 2 (codes "mail a answer x -> b") ≡ Wrong NoAnswer

-- What an answer says.
pub record OfAnswers : Type 0 where
  pub code : answer_of (codes "a b=75") ≡ Some (answer (codes "a b") 75 None)
  pub last_sign : answer_of (codes "a=b=1") ≡ Some (answer (codes "a=b") 1 None)
  pub output : answer_of (codes "a=0:o:p") ≡ Some (answer (codes "a") 0 (Some (codes "o:p")))
  pub above_255 : answer_of (codes "a=256") ≡ None
  pub no_code : answer_of (codes "a=:o") ≡ None
  pub no_sign : answer_of (codes "a") ≡ None

-- What a file says.
pub record OfFiles : Type 0 where
  pub tests : read_tests (codes "rcfile r\n\nmail m -> d\nmail n -> e") ≡ reading.Tests (record { rcfile = record { line = 1; name = codes "r" }; tests = said 3 (codes "m") (codes "d" ∷ []) None ∷ said 4 (codes "n") (codes "e" ∷ []) None ∷ [] })
  pub with_returns : read_tests (codes "rcfile r\r\nmail m -> d\r\n") ≡ reading.Tests (record { rcfile = record { line = 1; name = codes "r" }; tests = said 2 (codes "m") (codes "d" ∷ []) None ∷ [] })
  pub rcfile_last : read_tests (codes "mail m -> d\nrcfile r\n") ≡ reading.Tests (record { rcfile = record { line = 2; name = codes "r" }; tests = said 1 (codes "m") (codes "d" ∷ []) None ∷ [] })
  pub nothing : read_tests [] ≡ fault_on 0 NoRcfile
  pub no_rcfile : read_tests (codes "\nmail m -> d\n") ≡ fault_on 2 NoRcfile
  pub no_test : read_tests (codes "rcfile r\n#\n") ≡ fault_on 2 NoTest
  pub second : read_tests (codes "rcfile r\nrcfile s\nx\n") ≡ fault_on 2 SecondRcfile
  pub first_fault : read_tests (codes "rcfile r\nx\ny\n") ≡ fault_on 2 Unknown
