-- What a file of tests says.
use Rattle.std.specs.Prelude.{ℕ, ◌+◌, ◌-◌, ◌^◌, min, map, List, [], ◌∷◌, ◌++◌, Option, Some, None}
use Rattle.bstr.specs.Text.{lines_of, without_terminator}
use Rattle.test_text.specs.Said.{Said, File, Draft}
use Rattle.test_text.specs.Statements.{statement_of}
use Rattle.test_text.specs.declared.reading.Fault.{Fault}
use Rattle.test_text.specs.declared.reading.Reading.{Reading}
use Rattle.test_text.specs.declared.reading.Reading.TheVariants as reading
use Rattle.test_text.specs.declared.statement.Reason.{Reason}
use Rattle.test_text.specs.declared.statement.Reason.TheVariants as reason
use Rattle.test_text.specs.declared.statement.Rcfile.{Rcfile}
use Rattle.test_text.specs.declared.statement.Statement.{Statement}
use Rattle.test_text.specs.declared.statement.Statement.TheVariants.{Nothing, Rcfile as RcfileIs, Mail, Wrong}

-- the number of the next line
abbrev pub counted : ℕ → ℕ
counted number = min (number + 1) (2 ^ 64 - 1)

-- a file that isn't understood
abbrev pub fault_on : ℕ → Reason → Reading
fault_on line reason = reading.Fault (record { line = line; reason = reason })

-- a second rcfile is a fault
abbrev pub second_of : Option Rcfile → Option Reason
second_of None = None
second_of (Some rcfile) = Some reason.SecondRcfile

-- why a line isn't understood after others
abbrev pub fault_at : Draft → Statement → Option Reason
fault_at draft Nothing = None
fault_at draft (RcfileIs rcfile) = second_of draft.rcfile
fault_at draft (Mail test) = None
fault_at draft (Wrong reason) = Some reason

-- what a line adds
abbrev pub draft_after : Draft → Statement → Draft
draft_after draft Nothing = draft
draft_after draft (RcfileIs rcfile) = record draft { rcfile = Some rcfile }
draft_after draft (Mail test) = record draft { tests = draft.tests ++ test ∷ [] }
draft_after draft (Wrong reason) = draft

-- a file has tests
abbrev pub with_tests : ℕ → Rcfile → List Said → Reading
with_tests number rcfile [] = fault_on number reason.NoTest
with_tests number rcfile (test ∷ tests) = reading.Tests (record { rcfile = rcfile; tests = test ∷ tests })

-- and an rcfile
abbrev pub with_rcfile : ℕ → Option Rcfile → List Said → Reading
with_rcfile number None tests = fault_on number reason.NoRcfile
with_rcfile number (Some rcfile) tests = with_tests number rcfile tests

-- what a file of so many lines says
abbrev pub finished : ℕ → Draft → Reading
finished number draft = with_rcfile number draft.rcfile draft.tests

-- the first line that isn't understood is told
abbrev pub fault_or : ℕ → Option Reason → Reading → Reading
fault_or number None later = later
fault_or number (Some reason) later = fault_on number reason

-- what these lines say after others
abbrev pub read_from : ℕ → Draft → List (List ℕ) → Reading
read_from number draft [] = finished number draft
read_from number draft (line ∷ lines) =
    fault_or (counted number) (fault_at draft (statement_of (counted number) line))
    (read_from (counted number) (draft_after draft (statement_of (counted number) line)) lines)

-- what a file says
abbrev pub read_tests : List ℕ → Reading
read_tests bytes = read_from 0 (record { rcfile = None; tests = [] }) (map without_terminator (lines_of bytes))
