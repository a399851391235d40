-- What a line of a file of tests says.
use Rattle.std.specs.Prelude.{ℕ, Bool, ◌||◌, List, [], ◌∷◌, Option, Some, None, codes, nat_eq, bytes_eq, if◌then◌else◌}
use Rattle.std.specs.List.{starts_with}
use Rattle.test_text.specs.Answers.{answers_of}
use Rattle.test_text.specs.Cuts.{trimmed, after_word, cut_at, pieces_at}
use Rattle.test_text.specs.Expected.{parts_of, wanted_in, status_in, fault_in}
use Rattle.test_text.specs.declared.answer.Answer.{Answer}
use Rattle.test_text.specs.declared.expected.Part.{Part}
use Rattle.test_text.specs.declared.statement.Reason.{Reason}
use Rattle.test_text.specs.declared.statement.Reason.TheVariants as reason
use Rattle.test_text.specs.declared.statement.Statement.{Statement}
use Rattle.test_text.specs.declared.statement.Statement.TheVariants.{Nothing, Rcfile, Mail, Wrong}

-- a mail with these answers, where its parts are understood
abbrev pub test_or : Option Reason → ℕ → List ℕ → List Answer → List Part → Statement
test_or (Some reason) number name answers parts = Wrong reason
test_or None number name answers parts = Mail (record { line = number; mail = name; answers = answers; wanted = wanted_in parts; status = status_in parts })

abbrev pub test_of : ℕ → List ℕ → List Answer → List Part → Statement
test_of number name answers parts = test_or (fault_in parts) number name answers parts

-- where each answer is understood
abbrev pub test_answered : ℕ → List ℕ → Option (List Answer) → List ℕ → Statement
test_answered number name None expected = Wrong reason.NoAnswer
test_answered number name (Some answers) expected = test_of number name answers (parts_of expected)

-- the name of the mail comes first, and then the answers
abbrev pub test_pieces : ℕ → List (List ℕ) → List ℕ → Statement
test_pieces number [] expected = Wrong reason.NoName
test_pieces number (piece ∷ pieces) expected =
    if bytes_eq (trimmed piece) [] then Wrong reason.NoName else test_answered number (trimmed piece) (answers_of pieces) expected

abbrev pub test_cut : ℕ → List ℕ → List ℕ → Statement
test_cut number front expected = test_pieces number (pieces_at (codes " answer ") front) expected

-- the first arrow parts what is given from what is expected
abbrev pub test_at : ℕ → Option (List ℕ × List ℕ) → Statement
test_at number None = Wrong reason.NoArrow
test_at number (Some cut) = test_cut number cut.0 cut.1

abbrev pub mail_test : ℕ → List ℕ → Statement
mail_test number text = test_at number (cut_at (codes "->") text)

abbrev pub rcfile_named : ℕ → List ℕ → Statement
rcfile_named number [] = Wrong reason.NoName
rcfile_named number (byte ∷ name) = Rcfile (record { line = number; name = byte ∷ name })

-- the word says what stands behind it
abbrev pub statement_by : ℕ → Option (List ℕ) → Option (List ℕ) → Statement
statement_by number (Some name) mail = rcfile_named number name
statement_by number None (Some text) = mail_test number text
statement_by number None None = Wrong reason.Unknown

abbrev pub is_comment : List ℕ → Bool
is_comment text = bytes_eq text [] || starts_with nat_eq text (codes "#")

abbrev pub statement_in : ℕ → List ℕ → Statement
statement_in number text =
    if is_comment text then Nothing else statement_by number (after_word (codes "rcfile") text) (after_word (codes "mail") text)

-- what a line says that has this number
abbrev pub statement_of : ℕ → List ℕ → Statement
statement_of number line = statement_in number (trimmed line)
