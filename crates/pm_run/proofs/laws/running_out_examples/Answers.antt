use Rattle.std.proofs.Common.{◌≡◌, true, false, List, [], ◌∷◌, ◌++◌, ◌∙◌, inl, inr, refl, sym, subst}
use Rattle.std.specs.Prelude.{codes}
use Rattle.pm_journal.specs.declared.acts.Act.TheVariants.{Run}
use Rattle.pm_journal.specs.declared.acts.Entry.{Entry}
use Rattle.pm_journal.specs.declared.acts.Reply.TheVariants.{Done, Torn, Ended}
use Rattle.pm_meaning.specs.Examples.{process}
use Rattle.pm_perform.specs.Examples.{append, command}
use Rattle.pm_perform.specs.Undelivered.{any_delivers, any_hinders}
use Rattle.pm_run.specs.RunningOut.{AreJudged, LeavesUndelivered}
use Rattle.pm_run.specs.RunningOutExamples.{noted, top}
use Rattle.pm_run.proofs.laws.running_out_examples.Goals as goal

-- without conditions all entries are the action's
all_acted : (e : Entry) (judged acted : List Entry) → e ∷ [] ≡ judged ++ acted → AreJudged (top []) process judged acted → acted ≡ e ∷ []
all_acted e [] acted whole h = sym whole
all_acted e (j ∷ js) acted whole (inl k) = absurd k.1
all_acted e (j ∷ js) acted whole (inr k) = absurd k.1

never : (e : Entry) → any_hinders (e ∷ []) ≡ false → any_delivers (top []).flags (e ∷ []) ≡ true → LeavesUndelivered (top []) process (e ∷ []) → ⊥
never e free delivers h =
    let acted = all_acted e h.judged h.acted h.parts h.conditions in
    let none = h.none refl (subst (λ l. any_hinders l ≡ false) (sym acted) free) in
    let both : true ≡ false = sym delivers ∙ subst (λ l. any_delivers (top []).flags l ≡ false) acted none in
    absurd (cc)

pub returns : goal.returns
returns c = record {
  delivered = λ h. never (noted append Done) refl refl h;
  torn = record { judged = []; acted = noted append (Torn 1) ∷ []; parts = refl; conditions = inl (_, refl); none = λ copy free. refl };
  copied = record { judged = []; acted = noted append Done ∷ []; parts = refl; conditions = inl (_, refl); none = λ copy free. let e : true ≡ false = copy in absurd (cc) };
  begun = record { judged = []; acted = []; parts = refl; conditions = inl (_, refl); none = λ copy free. refl };
  fed = λ h. never (noted (Run command (codes "mail") false) (Ended 1 4 [])) refl refl h;
  block = tt;
  by_default = λ h. let e : true ≡ false = h refl refl in absurd (cc);
  torn_by_default = λ copy free. refl;
  none_left = tt;
  unlocked = λ h. let e : false ≡ true = h in absurd (cc);
  stuck = refl;
  lockfile = λ h. let e : false ≡ true = h in absurd (cc);
  lockfile_stuck = refl;
  no_log = λ h. let e : false ≡ true = h in absurd (cc);
  log = refl;
  log_of_none = λ h. let e : false ≡ true = h in absurd (cc);
  no_trap = λ h. let e : false ≡ true = h in absurd (cc);
  trap = refl;
  closing = λ h. h;
  unset = tt;
}
