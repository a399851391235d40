-- Conditions write nothing to the standard output.
use Rattle.std.proofs.Common.{ℕ, zero, suc, ℤ, Bool, true, false, List, [], ◌∷◌, ◌++◌, Option, Some, None, drop, if◌then◌else◌}
use Rattle.std.specs.List.{list_any}
use Rattle.pm_host.specs.declared.command.Command.{Command}
use Rattle.pm_recipe.specs.declared.tree.Condition.{Condition}
use Rattle.pm_recipe.specs.declared.tree.Flags.{Flags}
use Rattle.pm_subst.specs.Commands.{commands_in}
use Rattle.pm_subst.specs.declared.kinds.Mode.TheVariants.{Quoted, Many}
use Rattle.pm_subst.specs.Words.{words_in}
use Rattle.pm_meaning.specs.Leads.{Asking, asking_of, asked, after_blanks}
use Rattle.pm_meaning.specs.declared.question.Outcome.TheVariants as outcome
use Rattle.pm_meaning.specs.Evaluating.{question_by, is_weighted, is_program, is_expanded, test_outcome}
use Rattle.pm_meaning.specs.declared.question.Question.{Question}
use Rattle.pm_meaning.specs.declared.question.Judgement.{Judgement}
use Rattle.pm_journal.specs.Outcomes.{run_end}
use Rattle.pm_journal.specs.Plan.{Plan, Ends}
use Rattle.pm_meaning.specs.Locks.{is_nothing}
use Rattle.pm_meaning.specs.Logging.{log, log_to, log_file}
use Rattle.pm_meaning.specs.Minds.{Mind}
use Rattle.pm_meaning.specs.Turns.{say_then, is_too_long, length_in}
use Rattle.pm_meaning.specs.Assigning.{first_word}
use Rattle.pm_meaning.specs.Outputs.{tell_maybe, run_fault, run_command, run_line, output_of, outputs_behind, outputs_of, read_line}
use Rattle.pm_meaning.specs.Programs.{command_line_of, needs_shell}
use Rattle.pm_meaning.specs.Judging.{come_with, seen, by_line, ask_line, tested, read_again, expanded, comes_within, comes_by, comes_of, judge_each, judge, Come}
use Rattle.pm_meaning.specs.declared.process.ProgramLine.{ProgramLine}
use Rattle.pm_meaning.specs.declared.process.ProgramLine.TheVariants as line
use Rattle.pm_meaning.specs.declared.question.Judgement.TheVariants.{Matched, Unmatched, Defective, TooLong}
use Rattle.pm_meaning.specs.Judging.{told_judgement, after_judgement, holding}
use Rattle.pm_meaning.proofs.Beside.{WritesNothing, nothing_then}
use Rattle.pm_meaning.proofs.QuietLines.{quiet_if, quiet_say, quiet_maybe, quiet_outputs, quiet_read_line}

quiet_by_line : (l : ProgramLine) (text : List ℕ) (flags : Flags) (question : Question) (p : Mind) → WritesNothing (by_line l text flags question p)
quiet_by_line (line.Runs command) text flags question p = (tt, λ reply. quiet_maybe (run_fault (run_end reply) text) _ _)
quiet_by_line line.NoWords text flags question p = tt
quiet_by_line line.Unusable text flags question p = tt
quiet_by_line (line.TooLong size) text flags question p = tt

quiet_ask_line : (text : List ℕ) (flags : Flags) (question : Question) (p : Mind) → WritesNothing (ask_line text flags question p)
quiet_ask_line text flags question p = nothing_then (read_line text p) _ (quiet_read_line text p) (λ read. quiet_by_line read.line text flags question read.mind)

quiet_tested : (flags : Flags) (asking : Asking) (p : Mind) → WritesNothing (tested flags asking p)
quiet_tested flags asking p =
    quiet_if (is_program asking.text) (ask_line (after_blanks (drop 1 asking.text)) flags asking.question p) (Ends (come_with (test_outcome asking (seen flags p)) p))
    (quiet_ask_line (after_blanks (drop 1 asking.text)) flags asking.question p) tt

quiet_again : (text : List ℕ) (outputs : List (List ℕ)) (question : Question) (p : Mind) (go_on : Asking → Mind → Plan Come) → ((a : Asking) (q : Mind) → WritesNothing (go_on a q)) → WritesNothing (read_again text outputs question p go_on)
quiet_again text outputs question p go_on h =
    quiet_if (is_too_long Quoted text p.vars outputs) (Ends (come_with (outcome.TooLong (length_in Quoted text p.vars outputs)) p))
    (go_on (asking_of (after_blanks (first_word (words_in Quoted p.vars outputs text))) question) p) tt (h _ p)

quiet_expanded : (text : List ℕ) (question : Question) (p : Mind) (go_on : Asking → Mind → Plan Come) → ((a : Asking) (q : Mind) → WritesNothing (go_on a q)) → WritesNothing (expanded text question p go_on)
quiet_expanded text question p go_on h =
    nothing_then (outputs_of (commands_in Quoted text) p) _ (quiet_outputs [] (commands_in Quoted text) p) (λ ran. quiet_again text ran.outputs question ran.mind go_on h)

quiet_within : (n : ℕ) (flags : Flags) (asking : Asking) (p : Mind) → WritesNothing (comes_within n flags asking p)
quiet_within zero flags asking p =
    quiet_if (is_expanded (asked asking).text) (Ends (come_with outcome.Defective p)) (tested flags (asked asking) p) tt (quiet_tested flags (asked asking) p)
quiet_within (suc n) flags asking p =
    quiet_if (is_expanded (asked asking).text) (expanded (drop 1 (asked asking).text) (asked asking).question p (λ next q. comes_within n flags next q)) (tested flags (asked asking) p)
    (quiet_expanded (drop 1 (asked asking).text) (asked asking).question p (λ next q. comes_within n flags next q) (λ next q. quiet_within n flags next q)) (quiet_tested flags (asked asking) p)

quiet_by : (o : Option Question) (flags : Flags) (text : List ℕ) (p : Mind) → WritesNothing (comes_by o flags text p)
quiet_by None flags text p = tt
quiet_by (Some question) flags text p = quiet_within 8 flags (asking_of text question) p

quiet_end : {R : Type 0} (e : Option Judgement) (x : Plan R) (f : Judgement → R) → WritesNothing x → WritesNothing (elim e [ None ↦ x | Some end ↦ Ends (f end) ])
quiet_end None x f h = h
quiet_end (Some end) x f h = tt

quiet_each : (weighted : Bool) (flags : Flags) (conditions : List Condition) (total : ℤ) (p : Mind) → WritesNothing (judge_each weighted flags conditions total p)
quiet_each weighted flags [] total p = tt
quiet_each weighted flags (condition ∷ rest) total p =
    nothing_then (comes_of condition flags p) _ (quiet_by (question_by condition.weight) flags condition.text p)
    (λ come. quiet_end _ _ _ (quiet_each weighted flags rest _ _))

-- the conditions of a recipe write nothing
pub quiet_judge : (conditions : List Condition) (flags : Flags) (p : Mind) → WritesNothing (judge conditions flags p)
quiet_judge conditions flags p = quiet_each (list_any is_weighted conditions) flags conditions _ p

quiet_judgement : (judgement : Judgement) (p : Mind) → WritesNothing (told_judgement judgement p)
quiet_judgement Matched p = tt
quiet_judgement Unmatched p = tt
quiet_judgement (Defective text) p = quiet_say p _ _
quiet_judgement (TooLong size) p = quiet_say p _ _

-- nor does what is told of them
pub quiet_holding : (conditions : List Condition) (flags : Flags) (p : Mind) → WritesNothing (holding conditions flags p)
quiet_holding conditions flags p = nothing_then (judge conditions flags p) after_judgement (quiet_judge conditions flags p) (λ judged. quiet_judgement judged.verdict judged.mind)
