-- A recipe that is executed, and the commands of its texts.
use Rattle.std.proofs.Common.{◌≡◌, ℕ, true, List, ◌++◌, refl, subst}
use Rattle.pm_recipe.specs.Tree.{Top}
use Rattle.pm_meaning.specs.declared.question.Judgement.TheVariants.{Matched}
use Rattle.pm_journal.specs.Plan.{Plays}
use Rattle.pm_journal.specs.declared.acts.Entry.{Entry}
use Rattle.pm_meaning.specs.Chains.{is_admitted, executed}
use Rattle.pm_meaning.specs.Delivering.{Ready, make_ready}
use Rattle.pm_meaning.specs.Judging.{judge, judged_with}
use Rattle.pm_meaning.specs.RunLaws.{IsReady, IsRead}
use Rattle.pm_meaning.specs.Minds.{Mind}
use Rattle.pm_meaning.specs.ProgramActions.{Task, lock_commands}
use Rattle.pm_meaning.specs.Programs.{Reading}
use Rattle.pm_meaning.specs.declared.process.ProgramLine.{ProgramLine}

-- the recipe is admitted, and over these entries its conditions hold
pub record IsExecuted (top : Top) (p : Mind) (entries : List Entry) (mind : Mind) : Type 0 where
  pub admitted : is_admitted top.flags p.chain ≡ true
  pub judged : Mind
  pub holds : Plays (judge top.conditions top.flags p) entries (judged_with Matched judged)
  pub mind_is : mind ≡ executed top.flags judged

-- a recipe that is executed, and then runs the commands of its texts
pub ready_of : (top : Top) (locks : List (List ℕ)) (commands : Mind → List (List ℕ)) (p q : Mind) (judged ran : List Entry) (ready : Ready) (e : IsExecuted top p judged q)
    → Plays (make_ready locks (commands q) q) ran ready → IsReady top locks commands p (judged ++ ran) ready
ready_of top locks commands p q judged ran ready e runs = record {
  admitted = e.admitted;
  judged = judged;
  ran = ran;
  whole = refl;
  mind = e.judged;
  holds = e.holds;
  runs = subst (λ m. Plays (make_ready locks (commands m) m) ran ready) e.mind_is runs;
}

-- such a recipe's program is read as it was read
pub read_of : (top : Top) (task : Task) (reading : Mind → Reading) (p q : Mind) (judged ran : List Entry) (ready : Ready) (line : ProgramLine) (e : IsExecuted top p judged q)
    → Plays (make_ready (lock_commands task) (reading q).commands q) ran ready → (reading q).read ready.outputs ready.mind ≡ line → IsRead top task reading p (judged ++ ran) ready line
unfolding ready_of
read_of top task reading p q judged ran ready line e runs read = record {
  is_ready = ready_of top (lock_commands task) (λ m. (reading m).commands) p q judged ran ready e runs;
  read = subst (λ m. (reading m).read ready.outputs ready.mind ≡ line) e.mind_is read;
}
