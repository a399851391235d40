-- Each text is given to a child of its own.
use Rattle.std.specs.Prelude.{◌≡◌, ℕ, ◌==◌, ◌&&◌, false, List, [], ◌∷◌, ◌++◌, length, if◌then◌else◌}
use Rattle.pm_host.specs.Told.{HostView}
use Rattle.pm_host.specs.Runs.{Ran}
use Rattle.pm_host.specs.declared.command.Command.{Command}
use Rattle.pm_host.specs.declared.calls.Logged.{Logged}
use Rattle.pm_journal.specs.Children.{RunGroup}
use Rattle.pm_journal.specs.declared.acts.Reply.{Reply}
use Rattle.pm_journal.specs.declared.acts.Reply.TheVariants.{Ended}
use Rattle.formail_split.specs.declared.feeding.Outcome.{Outcome}
use Rattle.formail_split.specs.declared.feeding.Outcome.TheVariants.{Fine, Amiss, Failed}

-- a child's run: the calls that it took, and its reply
pub record ChildRun : Type 0 where
  pub reply : Reply
  pub calls : List Logged

-- each of these texts was the input of a child of its own, in order, whose output wasn't wanted
abbrev pub EachFed : Command → List (List ℕ) → List ChildRun → Type 0
EachFed command [] [] = Unit {0}
EachFed command (text ∷ texts) (run ∷ runs) = RunGroup command text false run.reply run.calls × EachFed command texts runs
EachFed command [] (run ∷ runs) = ⊥
EachFed command (text ∷ texts) [] = ⊥

-- the calls of these runs, one run after the other
abbrev pub calls_of : List ChildRun → List Logged
calls_of [] = []
calls_of (run ∷ runs) = run.calls ++ calls_of runs

-- what a child came to that was given so many bytes: it took them all and ended with code 0; it took fewer, or ended
-- with another code; or it wasn't started, or a call failed
abbrev pub came_to : ℕ → Reply → Outcome
came_to len (Ended code took output) = if (code == 0) && (took == len) then Fine else Amiss
came_to len other = Failed

-- the worse of two
abbrev pub worse : Outcome → Outcome → Outcome
worse Fine other = other
worse Failed other = Failed
worse Amiss Failed = Failed
worse Amiss other = Amiss

-- the worst that some children came to
abbrev pub worst_of : List (List ℕ) → List ChildRun → Outcome
worst_of [] runs = Fine
worst_of (text ∷ texts) [] = Fine
worst_of (text ∷ texts) (run ∷ runs) = worse (came_to (length text) run.reply) (worst_of texts runs)

-- each text was given to a child of its own, and this is the worst that came of it
pub record FeedsEach (command : Command) (texts : List (List ℕ)) (outcome : Outcome) (before after : HostView) : Type 0 where
  pub runs : List ChildRun
  pub each : EachFed command texts runs
  pub ran : Ran (calls_of runs) before after
  pub worst : outcome ≡ worst_of texts runs
