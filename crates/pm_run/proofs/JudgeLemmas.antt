-- What comes of a recipe whose conditions were judged.
use Rattle.std.proofs.Common.{◌≡◌, ℕ, Bool, true, false, List, [], ◌∷◌, Option, Result, length, sym, refl, ap, ◌∙◌, subst}
use Rattle.std.specs.Prelude.{not, if◌then◌else◌}
use Rattle.pm_bytes.specs.declared.error.Memory.{Memory}
use Rattle.pm_journal.specs.JournalState.{JournalState}
use Rattle.pm_journal.specs.Entries.{View}
use Rattle.pm_journal.specs.Plan.{Plan, Ends, and_then}
use Rattle.pm_journal.specs.Executed.{Executes, OutOfMemory, LeadsTo, Carries}
use Rattle.pm_journal.proofs.ActPlans.{executes_then}
use Rattle.pm_journal.proofs.PlanLeads.{leads_itself, leads_on, leads_to_end, leads_to_want}
use Rattle.pm_journal.proofs.WantsMemory.{executes_nothing, out_front}
use Rattle.pm_recipe.specs.Tree.{Top}
use Rattle.pm_recipe.specs.declared.tree.Condition.{Condition}
use Rattle.pm_meaning.specs.Chains.{is_admitted, passed, executed}
use Rattle.pm_meaning.specs.Judging.{Held, held_with, holding, after_conditions, judge_first}
use Rattle.pm_meaning.specs.Minds.{Mind}
use Rattle.pm_meaning.specs.Acting.{acted_turn, turn_after}
use Rattle.pm_meaning.specs.Apart.{acted_with}
use Rattle.pm_meaning.specs.Turning.{turn_of}
use Rattle.pm_meaning.specs.Turns.{Turn, GoesOn, ActEnd}
use Rattle.pm_meaning.specs.declared.acted.Acted.{Acted}
use Rattle.pm_meaning.specs.declared.process.End.{End}
use Rattle.pm_meaning.proofs.Choices.{ok_map, err_map}
use Rattle.pm_host.specs.Told.{Tells, Adds}
use Rattle.pm_conds.specs.Notes.{HearsHeld}
use Rattle.pm_conds.specs.declared.observer.Note.{Note}
use Rattle.pm_conds.specs.declared.observer.Note.TheVariants.{CameTo}
use Rattle.pm_run.specs.Coming.{HearsConditions, HearsCome}

-- an action was done, or memory was wanting in it, and this comes of it as a statement
pub acted_executes : (plan : Plan ActEnd) (acted : Acted) (end : Option End) (q : Mind) (x y : JournalState) (a b : View) → acted_turn acted q ≡ turn_of end q → Executes plan (acted_with acted q) x y a b
    → Executes (and_then plan (λ came. Ends (turn_after came))) (turn_of end q) x y a b
acted_executes plan acted end q x y a b same h =
    executes_then plan (λ came. Ends (turn_after came)) (acted_with acted q) (turn_of end q) x y y a b b h
    (subst (λ t. Executes (Ends (acted_turn acted q)) t y y b b) same (executes_nothing (acted_turn acted q) y y b refl))

pub acted_out : (plan : Plan ActEnd) (x y : JournalState) (a b : View) → OutOfMemory plan x y a b → OutOfMemory (and_then plan (λ came. Ends (turn_after came))) x y a b
acted_out plan x y a b h = out_front plan (λ came. Ends (turn_after came)) x y a b h

module _ (top : Top) (p : Mind) where
  -- what comes after the conditions
  abbrev behind : (Mind → Plan Turn) → Held → Plan Turn
  behind acts = λ held. after_conditions top.flags acts held

  -- the conditions are judged first
  abbrev judges : (Mind → Plan Turn) → List Condition → Plan Turn
  judges acts conditions = and_then (holding conditions top.flags p) (behind acts)

  -- the recipe isn't admitted
  pub not_admitted : (acts : Mind → Plan Turn) (q : Mind) (x : JournalState) (s : View) → is_admitted top.flags p.chain ≡ false → q ≡ passed top.flags p
      → Executes (judge_first top acts p) (GoesOn q) x x s s
  not_admitted acts q x s e is =
      subst (λ b. Executes (if not b then Ends (GoesOn (passed top.flags p)) else judges acts top.conditions) (GoesOn q) x x s s) (sym e)
      (subst (λ m. Executes (Ends (GoesOn m)) (GoesOn q) x x s s) is (executes_nothing (GoesOn q) x x s refl))

  module _ (conditions : List Condition) where
    -- the recipe is admitted, and its conditions are these
    abbrev AreJudged : Type 0
    AreJudged = (is_admitted top.flags p.chain ≡ true) × (conditions ≡ top.conditions)

    judges_first : (acts : Mind → Plan Turn) → AreJudged → judges acts conditions ≡ judge_first top acts p
    judges_first acts is =
        let none : Plan Turn = Ends (GoesOn (passed top.flags p)) in
        ap (judges acts) is.1 ∙ ap (λ b. if not b then none else judges acts top.conditions) (sym is.0)

    -- memory was wanting while they were judged
    pub judging_wants : (acts : Mind → Plan Turn) (x y : JournalState) (a b : View) → AreJudged → OutOfMemory (holding conditions top.flags p) x y a b → OutOfMemory (judge_first top acts p) x y a b
    judging_wants acts x y a b is h =
        subst (λ plan. OutOfMemory plan x y a b) (judges_first acts is) (out_front (holding conditions top.flags p) (behind acts) x y a b h)

    module _ (q : Mind) (x y : JournalState) (a b : View) where
      -- this came of them
      abbrev HasCome : Bool → Type 0
      HasCome holds = Executes (holding conditions top.flags p) (held_with holds q) x y a b

      pub comes_to_act : (acts : Mind → Plan Turn) (r : Mind) → AreJudged → HasCome true → r ≡ executed top.flags q → LeadsTo (judge_first top acts p) (acts r) x y a b
      comes_to_act acts r is h new =
          let plan = holding conditions top.flags p in
          let led = leads_on (judges acts conditions) plan (behind acts) (held_with true q) x x y a a b (leads_itself (judges acts conditions) x a) h in
          subst (λ l. LeadsTo l (acts r) x y a b) (judges_first acts is) (subst (λ l. LeadsTo (judges acts conditions) l x y a b) (ap acts (sym new)) led)

      pub comes_to_none : (acts : Mind → Plan Turn) (r : Mind) → AreJudged → HasCome false → r ≡ passed top.flags q → Executes (judge_first top acts p) (GoesOn r) x y a b
      comes_to_none acts r is h new =
          let none = subst (λ m. Executes (Ends (GoesOn m)) (GoesOn r) y y b b) new (executes_nothing (GoesOn r) y y b refl) in
          subst (λ plan. Executes plan (GoesOn r) x y a b) (judges_first acts is)
          (executes_then (holding conditions top.flags p) (behind acts) (held_with false q) (GoesOn r) x y y a b b h none)

-- the action of a recipe that is executed
pub acts_on : {A : Type 0} (whole rest : Plan Turn) (to : A → Turn) (answer : Result A Memory) (x y z : JournalState) (a b c : View) → LeadsTo whole rest x y a b → Carries rest to answer y z b c → Carries whole to answer x z a c
acts_on whole rest to answer x y z a b c h k = (
  ok_map answer _ _ (λ v l. leads_to_end whole rest (to v) x y z a b c h l) k.0,
  err_map answer _ _ (λ l. leads_to_want whole rest x y z a b c h l) k.1,
)

-- what is heard of a recipe
module _ (top : Top) (place : ℕ) (p : Mind) (admitted : Bool) (before between : Option (List Note)) where
  -- the observer heard that the run came to it
  abbrev HeardCome : JournalState → Type 0
  HeardCome x = (admitted ≡ is_admitted top.flags p.chain) × Tells (Adds (CameTo p.rcfile place admitted (length x.entries) ∷ [])) before between

  came_at : (x : JournalState) → HeardCome x → Tells (Adds (CameTo p.rcfile place (is_admitted top.flags p.chain) (length x.entries) ∷ [])) before between
  came_at x h = subst (λ b. Tells (Adds (CameTo p.rcfile place b (length x.entries) ∷ [])) before between) h.0 h.1

  pub hears_no_more : (x : JournalState) → HeardCome x → admitted ≡ false → HearsCome top place p x x before between
  hears_no_more x h refused = record {
    between = between;
    came = came_at x h;
    conditions = subst (λ b. HearsConditions b top p x x between between) (sym refused ∙ h.0) refl;
  }

  pub hears_conditions : (conditions : List Condition) (held : Held) (x y : JournalState) (after : Option (List Note)) → HeardCome x → admitted ≡ true → conditions ≡ top.conditions
      → HearsHeld conditions top.flags p held x y between after → HearsCome top place p x y before after
  hears_conditions conditions held x y after h granted same heard = record {
    between = between;
    came = came_at x h;
    conditions = subst (λ b. HearsConditions b top p x y between after) (sym granted ∙ h.0) (held, subst (λ l. HearsHeld l top.flags p held x y between after) same heard);
  }
