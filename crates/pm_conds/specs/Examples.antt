-- What the judging of conditions answers, and what is heard of it. What each part of a condition means in short cases is said where it is defined.
use Rattle.std.specs.Prelude.{◌≡◌, ℕ, List, [], ◌∷◌, codes, pos, true, false, Ok, Err}
use Rattle.pm_bytes.specs.declared.error.Memory.{Memory as WantOfMemory}
use Rattle.pm_recipe.specs.Letters.{no_flags}
use Rattle.pm_recipe.specs.declared.tree.Condition.{Condition}
use Rattle.pm_recipe.specs.declared.tree.Weight.TheVariants as weight
use Rattle.pm_journal.specs.Plan.{Ends, Asks, ask}
use Rattle.pm_journal.specs.declared.acts.Act.{Act}
use Rattle.pm_meaning.specs.ConditionExamples.{a_mail, vars, factors}
use Rattle.pm_meaning.specs.Evaluating.{with_score}
use Rattle.pm_meaning.specs.Judging.{judged_with, with_table}
use Rattle.pm_meaning.specs.Minds.{Mind}
use Rattle.pm_meaning.specs.declared.question.Outcome.TheVariants as outcome
use Rattle.pm_meaning.specs.declared.question.Judgement.TheVariants as judgement
use Rattle.pm_conds.specs.Holding.{verdict_of}
use Rattle.pm_conds.specs.Notes.{counted, counted_with, note_all, noted_with}
use Rattle.pm_conds.specs.declared.observer.Note.TheVariants as note
use Rattle.pm_conds.specs.declared.holding.Verdict.TheVariants.{Matched, Unmatched, Memory}

-- what holds of verdicts
pub record OfVerdicts : Type 0 where
  pub holds : verdict_of (Ok true) ≡ Matched
  pub holds_not : verdict_of (Ok false) ≡ Unmatched
  pub no_answer : (e : WantOfMemory) → verdict_of (Err e) ≡ Memory

-- a condition of this text, without a weight and with the weight 3^2
abbrev pub plain : List ℕ → Condition
plain text = record { weight = weight.None; text = text }

abbrev pub weighted : List ℕ → Condition
weighted text = record { weight = weight.Some (pos 3) (pos 2); text = text }

-- a process whose mail has 12 bytes
abbrev pub at_mail : Mind → Mind
at_mail p = record p { message = a_mail; vars = vars }

-- what holds of notes
pub record OfNotes : Type 0 where
  -- an act is one entry more
  pub none_asked : counted 4 (Ends true) ≡ Ends (counted_with true 4)
  pub one_asked : (act : Act) → counted 4 (ask act) ≡ Asks act (λ reply. Ends (counted_with reply 5))
  pub no_condition : (p : Mind) → note_all [] no_flags (at_mail p) 4 ≡ Ends (noted_with (judged_with judgement.Matched (at_mail p)) [])
  -- each that is judged has one, also that which ends it, and none behind it
  pub one_holds : (p : Mind) → note_all (plain (codes "> 11") ∷ []) no_flags (at_mail p) 4
      ≡ Ends (noted_with (judged_with judgement.Matched (at_mail p)) (note.Judged outcome.Holds (pos 0) 4 ∷ []))
  pub second_fails : (p : Mind) → note_all (plain (codes "> 11") ∷ plain (codes "> 12") ∷ plain (codes "> 13") ∷ []) no_flags (at_mail p) 4
      ≡ Ends (noted_with (judged_with judgement.Unmatched (at_mail p)) (note.Judged outcome.Holds (pos 0) 4 ∷ note.Judged outcome.Fails (pos 0) 4 ∷ []))
  pub defect : (p : Mind) → note_all (plain (codes "> x") ∷ plain (codes "> 11") ∷ []) no_flags (at_mail p) 4
      ≡ Ends (noted_with (judged_with (judgement.Defective (codes "> x")) (at_mail p)) (note.Judged outcome.Defective (pos 0) 4 ∷ []))
  -- the score is that after it: 3 for each time that the mail is twice as long as the number, by an exponent of 2
  pub scores : (p : Mind) → note_all (weighted (codes "> 6") ∷ weighted (codes "> 12") ∷ []) no_flags (at_mail p) 4
      ≡ Ends (noted_with (judged_with judgement.Matched (with_table (with_score true (pos 15) vars) (at_mail p)))
      (note.Judged (outcome.Compared factors true 12 6) (pos 12) 4 ∷ note.Judged (outcome.Compared factors true 12 12) (pos 15) 4 ∷ []))
