-- What comes of a recipe's conditions, one after the other (procmailrc(5), "Conditions").
use Rattle.std.specs.Prelude.{ℕ, ℤ, pos, negsuc, ◌+◌, Bool, true, false, not, List, length, take, drop, codes, nat_eq, nat_lt, if◌then◌else◌, Option, Some, None}
use Rattle.std.specs.List.{list_all, starts_with, position_or_len}
use Rattle.pm_bytes.specs.Letter.{is_blank_byte}
use Rattle.pm_bytes.specs.Number.{count_of}
use Rattle.pm_recipe.specs.declared.tree.Condition.{Condition}
use Rattle.pm_recipe.specs.declared.tree.Weight.{Weight}
use Rattle.pm_recipe.specs.declared.tree.Weight.TheVariants as weight
use Rattle.pm_vars.specs.Table.{Table}
use Rattle.pm_vars.specs.Variables.{with_value}
use Rattle.pm_meaning.specs.declared.question.Scope.{Scope}
use Rattle.pm_meaning.specs.declared.question.Scope.TheVariants as scope
use Rattle.pm_meaning.specs.declared.question.Question.{Question}
use Rattle.pm_meaning.specs.declared.question.Factors.{Factors}
use Rattle.pm_meaning.specs.declared.question.Outcome.{Outcome}
use Rattle.pm_meaning.specs.declared.question.Outcome.TheVariants.{Holds, Matched, Fails, Counted, Compared, Exited, Defective, TooLong}
use Rattle.pm_meaning.specs.declared.question.Judgement.{Judgement}
use Rattle.pm_meaning.specs.declared.question.Judgement.TheVariants as verdict
use Rattle.pm_meaning.specs.Leads.{Asking, after_blanks}
use Rattle.pm_meaning.specs.Searching.{Sight, area_in, expression_of, holds_if}
use Rattle.pm_meaning.specs.Scores.{add_score, add_code, add_length}
use Rattle.pm_meaning.specs.Weighing.{sought_outcome, weighed_size, end_at}

-- how long the word at the front of a text is
abbrev pub word_length : List ℕ → ℕ
word_length text = position_or_len is_blank_byte text

-- the number that a word writes, where nothing but blanks stands after it
abbrev pub word_number : List ℕ → Option ℕ
word_number text = if list_all is_blank_byte (drop (word_length text) text) then count_of (take (word_length text) text) else None

-- the number between blanks
abbrev pub number_between : List ℕ → Option ℕ
number_between text = word_number (after_blanks text)

-- the length that is compared: the mail's, or the area's that `??` names
abbrev pub compared_length : Scope → Sight → ℕ
compared_length scope.Flags sight = length sight.message.head + length sight.message.body
compared_length (scope.Mail place) sight = length (area_in (scope.Mail place) sight)
compared_length (scope.Variable name) sight = length (area_in (scope.Variable name) sight)

-- the condition holds where the test does, or the other way round
abbrev pub inverted_if : Bool → Bool → Bool
inverted_if true test = not test
inverted_if false test = test

-- `<` asks for a length below the number, and `>` for one above it
abbrev pub size_outcome : Bool → Bool → ℕ → Option ℕ → Outcome
size_outcome inverted above size None = Defective
size_outcome inverted true size (Some number) = holds_if (inverted_if inverted (nat_lt number size))
size_outcome inverted false size (Some number) = holds_if (inverted_if inverted (nat_lt size number))

-- what comes of a size, with a weight or without one
abbrev pub measured_outcome : Option Factors → Bool → Bool → ℕ → Option ℕ → Outcome
measured_outcome None inverted above size number = size_outcome inverted above size number
measured_outcome (Some weight) inverted above size number = weighed_size weight inverted above size number

-- `<` and `>` ask for a size, and anything else for an expression
abbrev pub test_outcome : Asking → Sight → Outcome
test_outcome asking sight =
    if starts_with nat_eq asking.text (codes "<") then
    measured_outcome asking.question.weight asking.question.inverted false (compared_length asking.question.scope sight) (number_between (drop 1 asking.text))
    else if starts_with nat_eq asking.text (codes ">") then
    measured_outcome asking.question.weight asking.question.inverted true (compared_length asking.question.scope sight) (number_between (drop 1 asking.text))
    else
    sought_outcome asking.question.weight asking.question.inverted sight.flags.distinguish (area_in asking.question.scope sight) (expression_of asking.text)

-- what comes of a program that ended with this code: it holds for the code 0, with a weight it is scored by the code
abbrev pub exit_outcome : Option Factors → Bool → ℕ → Outcome
exit_outcome None inverted code = holds_if (inverted_if inverted (nat_eq code 0))
exit_outcome (Some weight) inverted code = Exited weight inverted code

-- the outcome of a program's code for a condition with this weight and these `!`
abbrev pub exited : Question → ℕ → Outcome
exited question code = exit_outcome question.weight question.inverted code

-- a `$` stands at the front: the rest is expanded and read again
abbrev pub is_expanded : List ℕ → Bool
is_expanded text = starts_with nat_eq text (codes "$")

-- a `?` stands at the front: the rest is a program's line
abbrev pub is_program : List ℕ → Bool
is_program text = starts_with nat_eq text (codes "?")

-- nothing was read yet after this weight
abbrev pub unasked_by : Option Factors → Question
unasked_by weight = record { weight = weight; inverted = false; scope = scope.Flags }

-- what a condition is asked by its weight; a weight with a number out of its range makes it a defect
abbrev pub question_by : Weight → Option Question
question_by weight.None = Some (unasked_by None)
question_by weight.Bad = None
question_by (weight.Some w (pos x)) = Some (unasked_by (Some (record { w = w; x = x })))
question_by (weight.Some w (negsuc x)) = None

-- the variables with MATCH
abbrev pub with_match : List ℕ → Table → Table
with_match bytes vars = record vars { variables = with_value (codes "MATCH") bytes vars.variables }

-- the variables with MATCH, if the condition sets it
abbrev pub with_matched : Option (List ℕ) → Table → Table
with_matched None vars = vars
with_matched (Some bytes) vars = with_match bytes vars

-- how far the conditions were judged: whether that ended it, the score, and the variables for the next one
pub record Course : Type 0 where
  pub end : Option Judgement
  pub total : ℤ
  pub vars : Table

-- a course with these parts
abbrev pub course_of : Option Judgement → ℤ → Table → Course
course_of end total vars = record { end = end; total = total; vars = vars }

-- the score was changed: at one of its ends it ends the judging
abbrev pub scored : ℤ → Table → Course
scored total vars = course_of (end_at total) total vars

-- what a size adds, if it can
abbrev pub compared : List ℕ → Option ℤ → ℤ → Table → Course
compared text None total vars = course_of (Some (verdict.Defective text)) total vars
compared text (Some score) total vars = scored score vars

-- one condition more: what comes of it is weighed, or holds or ends the judging
abbrev pub judged_one : List ℕ → Outcome → ℤ → Table → Course
judged_one text Holds total vars = course_of None total vars
judged_one text (Matched bytes) total vars = course_of None total (with_match bytes vars)
judged_one text Fails total vars = course_of (Some verdict.Unmatched) total vars
judged_one text (Counted weight matches bytes) total vars = scored (add_score total weight.w weight.x matches) (with_matched bytes vars)
judged_one text (Compared weight above length number) total vars =
    compared text (add_length total weight.w weight.x length number above) total vars
judged_one text (Exited weight inverted code) total vars = scored (add_code total weight.w weight.x inverted code) vars
judged_one text Defective total vars = course_of (Some (verdict.Defective text)) total vars
judged_one text (TooLong size) total vars = course_of (Some (verdict.TooLong size)) total vars

-- `$=` is the score of a recipe that has a weight
abbrev pub with_score : Bool → ℤ → Table → Table
with_score false total vars = vars
with_score true total vars = record vars { marks = record vars.marks { score = total } }

-- the condition has a weight
abbrev pub is_weighted : Condition → Bool
is_weighted condition = elim condition.weight [ weight.None ↦ false | weight.Some w x ↦ true | weight.Bad ↦ true ]
