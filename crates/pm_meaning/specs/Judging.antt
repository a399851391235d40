-- What comes of a recipe's conditions before its action.
use Rattle.std.specs.Prelude.{ℕ, zero, suc, ℤ, pos, Bool, true, false, not, drop, List, [], ◌∷◌, Option, Some, None, if◌then◌else◌}
use Rattle.std.specs.List.{list_any}
use Rattle.pm_host.specs.declared.command.Command.{Command}
use Rattle.pm_recipe.specs.Tree.{Top}
use Rattle.pm_recipe.specs.declared.tree.Condition.{Condition}
use Rattle.pm_recipe.specs.declared.tree.Flags.{Flags}
use Rattle.pm_vars.specs.Table.{Table}
use Rattle.pm_subst.specs.Commands.{commands_in}
use Rattle.pm_subst.specs.Words.{words_in}
use Rattle.pm_subst.specs.declared.kinds.Mode.TheVariants.{Quoted}
use Rattle.pm_meaning.specs.Leads.{Asking, asking_of, asked, after_blanks}
use Rattle.pm_meaning.specs.Searching.{Sight, sight_of, input_in}
use Rattle.pm_meaning.specs.Evaluating.{Course, judged_one, test_outcome, exited, is_expanded, is_program, question_by, with_score, is_weighted}
use Rattle.pm_meaning.specs.Weighing.{end_of_all}
use Rattle.pm_meaning.specs.declared.question.Outcome.{Outcome}
use Rattle.pm_meaning.specs.declared.question.Outcome.TheVariants as outcome
use Rattle.pm_meaning.specs.declared.question.Question.{Question}
use Rattle.pm_meaning.specs.declared.question.Judgement.{Judgement}
use Rattle.pm_meaning.specs.declared.question.Judgement.TheVariants.{Matched, Unmatched, Defective, TooLong}
use Rattle.pm_journal.specs.LogText.{defective_condition_line, value_too_long_line}
use Rattle.pm_journal.specs.Outcomes.{run_end}
use Rattle.pm_journal.specs.declared.acts.Act.TheVariants.{Run}
use Rattle.pm_journal.specs.Plan.{Plan, Ends, and_then, ask}
use Rattle.pm_meaning.specs.Assigning.{first_word}
use Rattle.pm_meaning.specs.Chains.{is_admitted, passed, executed}
use Rattle.pm_meaning.specs.Changes.{overflowed}
use Rattle.pm_meaning.specs.Minds.{Mind}
use Rattle.pm_meaning.specs.Outputs.{outputs_of, read_line, tell_run}
use Rattle.pm_meaning.specs.Programs.{code_of, with_code}
use Rattle.pm_meaning.specs.Turns.{Turn, GoesOn, say_then, is_too_long, length_in}
use Rattle.pm_meaning.specs.declared.process.ProgramLine.{ProgramLine}
use Rattle.pm_meaning.specs.declared.process.ProgramLine.TheVariants as line

-- what the conditions see of a process
abbrev pub seen : Flags → Mind → Sight
seen flags p = sight_of flags p.message p.vars

-- the process with these variables
abbrev pub with_table : Table → Mind → Mind
with_table vars p = record p { vars = vars }

-- what came of a condition, and the process then
pub record Come : Type 0 where
  pub outcome : Outcome
  pub mind : Mind

-- an outcome with the process after it
abbrev pub come_with : Outcome → Mind → Come
come_with outcome p = record { outcome = outcome; mind = p }

-- the program of this line gets what the condition names, and its exit code decides
abbrev pub ask_program : Command → List ℕ → Flags → Question → Mind → Plan Come
ask_program command text flags question p =
    and_then (ask (Run command (input_in question.scope (seen flags p)) false))
    (λ reply. tell_run (run_end reply) text (with_code reply p) (come_with (exited question (code_of (run_end reply))) (with_code reply p)))

-- the program by its line; one that can't be run makes the condition a defect
abbrev pub by_line : ProgramLine → List ℕ → Flags → Question → Mind → Plan Come
by_line (line.Runs command) text flags question p = ask_program command text flags question p
by_line line.NoWords text flags question p = Ends (come_with outcome.Defective p)
by_line line.Unusable text flags question p = Ends (come_with outcome.Defective p)
by_line (line.TooLong size) text flags question p = Ends (come_with (outcome.TooLong size) p)

-- a program's line is read, and its program is asked
abbrev pub ask_line : List ℕ → Flags → Question → Mind → Plan Come
ask_line text flags question p = and_then (read_line text p) (λ read. by_line read.line text flags question read.mind)

-- `?` asks a program, and anything else the mail or a variable
abbrev pub tested : Flags → Asking → Mind → Plan Come
tested flags asking p =
    if is_program asking.text then ask_line (after_blanks (drop 1 asking.text)) flags asking.question p
    else Ends (come_with (test_outcome asking (seen flags p)) p)

-- a text as if inside double quotes, with these outputs of its commands, is read again
abbrev pub read_again : List ℕ → List (List ℕ) → Question → Mind → (Asking → Mind → Plan Come) → Plan Come
read_again text outputs question p go_on =
    if is_too_long Quoted text p.vars outputs then Ends (come_with (outcome.TooLong (length_in Quoted text p.vars outputs)) p)
    else go_on (asking_of (after_blanks (first_word (words_in Quoted p.vars outputs text))) question) p

-- the commands of a text after `$` are run, and then it is expanded
abbrev pub expanded : List ℕ → Question → Mind → (Asking → Mind → Plan Come) → Plan Come
expanded text question p go_on = and_then (outputs_of (commands_in Quoted text) p) (λ ran. read_again text ran.outputs question ran.mind go_on)

-- what comes of what is asked; a text after `$` is read again, so many times at most
abbrev pub comes_within : ℕ → Flags → Asking → Mind → Plan Come
comes_within zero flags asking p =
    if is_expanded (asked asking).text then Ends (come_with outcome.Defective p) else tested flags (asked asking) p
comes_within (suc n) flags asking p =
    if is_expanded (asked asking).text then
    expanded (drop 1 (asked asking).text) (asked asking).question p (λ next q. comes_within n flags next q)
    else tested flags (asked asking) p

-- what comes of a text by its question: a ninth `$` makes it a defect, and so does a weight out of its range
abbrev pub comes_by : Option Question → Flags → List ℕ → Mind → Plan Come
comes_by None flags text p = Ends (come_with outcome.Defective p)
comes_by (Some question) flags text p = comes_within 8 flags (asking_of text question) p

-- what comes of a condition
abbrev pub comes_of : Condition → Flags → Mind → Plan Come
comes_of condition flags p = comes_by (question_by condition.weight) flags condition.text p

-- what came of all conditions, and the process then
pub record Judged : Type 0 where
  pub verdict : Judgement
  pub mind : Mind

-- a verdict with the process after it
abbrev pub judged_with : Judgement → Mind → Judged
judged_with verdict p = record { verdict = verdict; mind = p }

-- what came of the conditions, as far as they were judged; `$=` is the score of a recipe that has a weight
abbrev pub scored_with : Bool → Judgement → ℤ → Mind → Judged
scored_with weighted end total p = judged_with end (with_table (with_score weighted total p.vars) p)

-- a condition ended it, or the rest comes
abbrev pub judged_by : Bool → Course → Mind → (ℤ → Mind → Plan Judged) → Plan Judged
judged_by weighted course p go_on =
    elim course.end [ None ↦ go_on course.total (with_table course.vars p) | Some end ↦ Ends (scored_with weighted end course.total (with_table course.vars p)) ]

-- they are judged in order, up to one that ends it
abbrev pub judge_each : Bool → Flags → List Condition → ℤ → Mind → Plan Judged
judge_each weighted flags [] total p = Ends (scored_with weighted (end_of_all weighted total) total p)
judge_each weighted flags (condition ∷ rest) total p =
    and_then (comes_of condition flags p)
    (λ come. judged_by weighted (judged_one condition.text come.outcome total come.mind.vars) come.mind (λ score q. judge_each weighted flags rest score q))

-- the conditions of a recipe; the score begins at 0
abbrev pub judge : List Condition → Flags → Mind → Plan Judged
judge conditions flags p = judge_each (list_any is_weighted conditions) flags conditions (pos 0) p

-- whether the conditions hold, and the process then
pub record Held : Type 0 where
  pub holds : Bool
  pub mind : Mind

-- the same by its parts
abbrev pub held_with : Bool → Mind → Held
held_with holds p = record { holds = holds; mind = p }

-- they hold only where all match; what is no condition, and a value that is too long, is told
abbrev pub told_judgement : Judgement → Mind → Plan Held
told_judgement Matched p = Ends (held_with true p)
told_judgement Unmatched p = Ends (held_with false p)
told_judgement (Defective text) p = say_then p (defective_condition_line text) (held_with false p)
told_judgement (TooLong size) p = say_then p (value_too_long_line size) (held_with false (overflowed p))

-- what comes after they were judged
abbrev pub after_judgement : Judged → Plan Held
after_judgement judged = told_judgement judged.verdict judged.mind

-- the conditions of a recipe are judged, and a defect among them is told
abbrev pub holding : List Condition → Flags → Mind → Plan Held
holding conditions flags p = and_then (judge conditions flags p) after_judgement

-- what comes after the conditions: this where they hold
abbrev pub after_conditions : Flags → (Mind → Plan Turn) → Held → Plan Turn
after_conditions flags acts held = if held.holds then acts (executed flags held.mind) else Ends (GoesOn (passed flags held.mind))

-- a recipe that its flags admit is judged, and acted on only where its conditions hold
abbrev pub judge_first : Top → (Mind → Plan Turn) → Mind → Plan Turn
judge_first top acts p =
    if not (is_admitted top.flags p.chain) then Ends (GoesOn (passed top.flags p))
    else and_then (holding top.conditions top.flags p) (λ held. after_conditions top.flags acts held)
