-- What makes a condition defective, whatever the mail is (procmailrc(5), "Conditions").
use Rattle.std.specs.Prelude.{ℕ, ◌&&◌, ◌||◌, List, drop, codes, nat_eq, if◌then◌else◌, Option, Some, None, is_some}
use Rattle.std.specs.List.{starts_with}
use Rattle.pm_recipe.specs.declared.tree.Condition.{Condition}
use Rattle.pm_meaning.specs.Leads.{Asking, asked, asking_of}
use Rattle.pm_meaning.specs.Evaluating.{question_by, number_between, is_expanded, is_program}
use Rattle.pm_meaning.specs.Searching.{expression_of}
use Rattle.pm_meaning.specs.declared.question.Question.{Question}
use Rattle.check_find.specs.declared.codes.Fault.{Fault}
use Rattle.check_find.specs.declared.codes.Fault.TheVariants.{Weight, Size, Expression}

-- no number is compared, or it is one of a weight after `!`
abbrev pub size_fault : Question → Option ℕ → Option Fault
size_fault question None = Some Size
size_fault question (Some number) = if question.inverted && is_some question.weight then Some Size else None

-- the text is no expression
abbrev pub expression_fault : List ℕ → Option Fault
expression_fault text = if is_some (expression_of text) then None else Some Expression

-- what is expanded first can't be read before the run
abbrev pub test_fault : Asking → Option Fault
test_fault asking =
    if is_expanded asking.text || is_program asking.text then None
    else if starts_with nat_eq asking.text (codes "<") || starts_with nat_eq asking.text (codes ">") then size_fault asking.question (number_between (drop 1 asking.text))
    else expression_fault asking.text

-- a weight out of its range, or what is wrong with the test
abbrev pub fault_by : Option Question → List ℕ → Option Fault
fault_by None text = Some Weight
fault_by (Some question) text = test_fault (asked (asking_of text question))

-- what is wrong with a condition
abbrev pub fault_of : Condition → Option Fault
fault_of condition = fault_by (question_by condition.weight) condition.text
