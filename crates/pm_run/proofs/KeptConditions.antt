-- The conditions of a recipe change nothing about locks.
use Rattle.std.proofs.Common.{ℕ, zero, suc, ℤ, Bool, List, [], ◌∷◌, Option, Some, None}
use Rattle.std.specs.Prelude.{not, drop}
use Rattle.std.specs.List.{list_any}
use Rattle.pm_recipe.specs.Tree.{Top}
use Rattle.pm_recipe.specs.declared.tree.Condition.{Condition}
use Rattle.pm_recipe.specs.declared.tree.Flags.{Flags}
use Rattle.pm_subst.specs.Commands.{commands_in}
use Rattle.pm_subst.specs.Words.{words_in}
use Rattle.pm_subst.specs.declared.kinds.Mode.TheVariants.{Quoted}
use Rattle.pm_journal.specs.Outcomes.{run_end}
use Rattle.pm_journal.specs.Plan.{Plan, Ends}
use Rattle.pm_meaning.specs.Assigning.{first_word}
use Rattle.pm_meaning.specs.Chains.{is_admitted, passed, executed}
use Rattle.pm_meaning.specs.Evaluating.{judged_one, test_outcome, is_expanded, is_program, question_by, is_weighted}
use Rattle.pm_meaning.specs.Judging.{Come, come_with, seen, with_table, ask_line, by_line, tested, read_again, expanded, comes_within, comes_by, comes_of, Judged, scored_with, judge_each, judge, told_judgement, after_judgement, holding, judge_first}
use Rattle.pm_meaning.specs.Leads.{Asking, asking_of, asked, after_blanks}
use Rattle.pm_meaning.specs.Minds.{Mind}
use Rattle.pm_meaning.specs.Outputs.{run_fault, outputs_of, read_line}
use Rattle.pm_meaning.specs.Turns.{Turn, GoesOn, is_too_long, length_in}
use Rattle.pm_meaning.specs.declared.process.ProgramLine.{ProgramLine}
use Rattle.pm_meaning.specs.declared.process.ProgramLine.TheVariants as line
use Rattle.pm_meaning.specs.declared.question.Judgement.{Judgement}
use Rattle.pm_meaning.specs.declared.question.Judgement.TheVariants.{Matched, Unmatched, Defective, TooLong}
use Rattle.pm_meaning.specs.declared.question.Outcome.TheVariants as outcome
use Rattle.pm_meaning.specs.declared.question.Question.{Question}
use Rattle.pm_run.proofs.Always.{Always, always_then, always_if, always_said, always_told}
use Rattle.pm_run.proofs.Kept.{Kept, AfterCommands, AfterCondition, AfterConditions, AfterJudging, AfterLine}
use Rattle.pm_run.proofs.KeptOutputs.{kept_outputs, kept_read}

module _ (K : List (List ℕ) → Option (List ℕ) → Type 0) where
  kept_line : (l : ProgramLine) (text : List ℕ) (flags : Flags) (question : Question) (p : Mind) → Kept K p → Always (AfterCondition K) (by_line l text flags question p)
  kept_line (line.Runs command) text flags question p h = λ reply. always_told (AfterCondition K) (run_fault (run_end reply) text) _ _ h
  kept_line line.NoWords text flags question p h = h
  kept_line line.Unusable text flags question p h = h
  kept_line (line.TooLong size) text flags question p h = h

  kept_asked : (text : List ℕ) (flags : Flags) (question : Question) (p : Mind) → Kept K p → Always (AfterCondition K) (ask_line text flags question p)
  kept_asked text flags question p h =
      always_then (AfterLine K) (AfterCondition K) (read_line text p) _ (kept_read K text p h) (λ read k. kept_line read.line text flags question read.mind k)

  kept_tested : (flags : Flags) (asking : Asking) (p : Mind) → Kept K p → Always (AfterCondition K) (tested flags asking p)
  kept_tested flags asking p h =
      always_if (AfterCondition K) (is_program asking.text) (ask_line (after_blanks (drop 1 asking.text)) flags asking.question p) (Ends (come_with (test_outcome asking (seen flags p)) p))
      (kept_asked (after_blanks (drop 1 asking.text)) flags asking.question p h) h

  kept_again : (text : List ℕ) (outputs : List (List ℕ)) (question : Question) (p : Mind) (go_on : Asking → Mind → Plan Come) → ((a : Asking) (q : Mind) → Kept K q → Always (AfterCondition K) (go_on a q))
      → Kept K p → Always (AfterCondition K) (read_again text outputs question p go_on)
  kept_again text outputs question p go_on k h =
      let asking = asking_of (after_blanks (first_word (words_in Quoted p.vars outputs text))) question in
      always_if (AfterCondition K) (is_too_long Quoted text p.vars outputs) (Ends (come_with (outcome.TooLong (length_in Quoted text p.vars outputs)) p))
      (go_on asking p) h (k asking p h)

  kept_expanded : (text : List ℕ) (question : Question) (p : Mind) (go_on : Asking → Mind → Plan Come) → ((a : Asking) (q : Mind) → Kept K q → Always (AfterCondition K) (go_on a q))
      → Kept K p → Always (AfterCondition K) (expanded text question p go_on)
  kept_expanded text question p go_on k h =
      always_then (AfterCommands K) (AfterCondition K) (outputs_of (commands_in Quoted text) p) _ (kept_outputs K (commands_in Quoted text) p h)
      (λ ran l. kept_again text ran.outputs question ran.mind go_on k l)

  kept_within : (n : ℕ) (flags : Flags) (asking : Asking) (p : Mind) → Kept K p → Always (AfterCondition K) (comes_within n flags asking p)
  kept_within zero flags asking p h =
      always_if (AfterCondition K) (is_expanded (asked asking).text) (Ends (come_with outcome.Defective p)) (tested flags (asked asking) p) h (kept_tested flags (asked asking) p h)
  kept_within (suc n) flags asking p h =
      always_if (AfterCondition K) (is_expanded (asked asking).text) (expanded (drop 1 (asked asking).text) (asked asking).question p (λ next q. comes_within n flags next q)) (tested flags (asked asking) p)
      (kept_expanded (drop 1 (asked asking).text) (asked asking).question p (λ next q. comes_within n flags next q) (λ next q k. kept_within n flags next q k) h) (kept_tested flags (asked asking) p h)

  kept_come : (o : Option Question) (flags : Flags) (text : List ℕ) (p : Mind) → Kept K p → Always (AfterCondition K) (comes_by o flags text p)
  kept_come None flags text p h = h
  kept_come (Some question) flags text p h = kept_within 8 flags (asking_of text question) p h

  kept_course : (e : Option Judgement) (weighted : Bool) (total : ℤ) (p : Mind) (x : Plan Judged) → Always (AfterJudging K) x → Kept K p
      → Always (AfterJudging K) (elim e [ None ↦ x | Some end ↦ Ends (scored_with weighted end total p) ])
  kept_course None weighted total p x k h = k
  kept_course (Some end) weighted total p x k h = h

  kept_each : (weighted : Bool) (flags : Flags) (conditions : List Condition) (total : ℤ) (p : Mind) → Kept K p → Always (AfterJudging K) (judge_each weighted flags conditions total p)
  kept_each weighted flags [] total p h = h
  kept_each weighted flags (condition ∷ rest) total p h =
      always_then (AfterCondition K) (AfterJudging K) (comes_of condition flags p) _ (kept_come (question_by condition.weight) flags condition.text p h)
      (λ come k.
      let course = judged_one condition.text come.outcome total come.mind.vars in
      kept_course course.end weighted course.total (with_table course.vars come.mind) (judge_each weighted flags rest course.total (with_table course.vars come.mind))
      (kept_each weighted flags rest course.total (with_table course.vars come.mind) k) k)

  kept_told : (verdict : Judgement) (p : Mind) → Kept K p → Always (AfterConditions K) (told_judgement verdict p)
  kept_told Matched p h = h
  kept_told Unmatched p h = h
  kept_told (Defective text) p h = always_said (AfterConditions K) p _ _ h
  kept_told (TooLong size) p h = always_said (AfterConditions K) p _ _ h

  kept_holding : (conditions : List Condition) (flags : Flags) (p : Mind) → Kept K p → Always (AfterConditions K) (holding conditions flags p)
  kept_holding conditions flags p h =
      always_then (AfterJudging K) (AfterConditions K) (judge conditions flags p) after_judgement
      (kept_each (list_any is_weighted conditions) flags conditions _ p h) (λ judged k. kept_told judged.verdict judged.mind k)

  -- what holds after a recipe's action, and of the process as it was before the recipe, holds after the recipe
  pub kept_first : (T : Turn → Type 0) (top : Top) (acts : Mind → Plan Turn) (p : Mind) → ((q : Mind) → Kept K q → T (GoesOn q)) → ((q : Mind) → Kept K q → Always T (acts q)) → Kept K p
      → Always T (judge_first top acts p)
  kept_first T top acts p goes acted h =
      always_if T (not (is_admitted top.flags p.chain)) (Ends (GoesOn (passed top.flags p))) _ (goes (passed top.flags p) h)
      (always_then (AfterConditions K) T (holding top.conditions top.flags p) _ (kept_holding top.conditions top.flags p h)
      (λ held k. always_if T held.holds (acts (executed top.flags held.mind)) (Ends (GoesOn (passed top.flags held.mind))) (acted (executed top.flags held.mind) k) (goes (passed top.flags held.mind) k)))
