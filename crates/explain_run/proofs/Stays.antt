-- Programs that no condition follows.
use Rattle.std.proofs.Common.{◌≡◌, ℕ, Bool, true, false, not, ◌&&◌, ◌||◌, if◌then◌else◌, List, [], ◌∷◌, ◌++◌, Some, refl, ap, ◌∙◌}
use Rattle.pm_overlay.specs.Tools.{has_answer}
use Rattle.pm_conds.specs.declared.observer.Note.{Note}
use Rattle.pm_conds.specs.declared.observer.Note.TheVariants.{CameTo, Judged}
use Rattle.pm_host.specs.declared.command.Command.{Command}
use Rattle.pm_journal.specs.declared.acts.Act.TheVariants.{Run}
use Rattle.pm_journal.specs.declared.acts.Entry.{Entry}
use Rattle.explain_run.specs.Captures.{may_be_captured}
use Rattle.explain_run.specs.Heard.{is_judged, is_of_condition}
use Rattle.explain_run.specs.Laws.{AllBefore, GoesOn}
use Rattle.explain_run.specs.Starting.{start_of}

-- the next note is a recipe's, or there is none
after_recipe : (after : List Note) (index : ℕ) → GoesOn after index → is_of_condition after index ≡ false
after_recipe [] index h = refl
after_recipe (CameTo rcfile place admitted entries ∷ notes) index h = ap (λ (comes : Bool). if comes then false else is_of_condition notes index) h
after_recipe (Judged outcome score entries ∷ notes) index h = absurd h

-- notes before the entry tell nothing of it
pub skip : (before after : List Note) (index : ℕ) → AllBefore before index → is_of_condition (before ++ after) index ≡ is_of_condition after index
skip [] after index b = refl
skip (note ∷ before) after index b =
    ap (λ (comes : Bool). if comes then is_judged note else is_of_condition (before ++ after) index) b.0 ∙ skip before after index b.1

and_false : (b : Bool) → (b && false) ≡ false
and_false true = refl
and_false false = refl

pub stays : (lines : List (List ℕ)) (entries : List Entry) (before after : List Note) (index : ℕ) (command : Command) (input : List ℕ)
    → AllBefore before index → GoesOn after index → start_of lines entries (before ++ after) index (Run command input false) ≡ Some false
stays lines entries before after index command input b h =
    ap (λ (asks : Bool). Some (not (has_answer lines command) && (asks || (false && not (may_be_captured entries (before ++ after) index))))) (skip before after index b ∙ after_recipe after index h)
    ∙ ap Some (and_false (not (has_answer lines command)))
