-- The calls that run a child leave none.
use Rattle.std.proofs.Common.{◌≡◌, Bool, true, List, [], ◌∷◌, ◌++◌, ap, ◌∙◌, inl, inr}
use Rattle.pm_host.specs.Runs.{child_after, logged}
use Rattle.pm_host.specs.declared.answers.Child.{Child}
use Rattle.pm_host.specs.declared.answers.Child.TheVariants.{NoChild, Feeding}
use Rattle.pm_host.specs.declared.answers.Finished.{Finished}
use Rattle.pm_host.specs.declared.command.Command.{Command}
use Rattle.pm_host.specs.declared.calls.Call.TheVariants.{Finish}
use Rattle.pm_host.specs.declared.calls.Answer.TheVariants.{Finish as AnswerFinish}
use Rattle.pm_host.specs.declared.calls.Logged.{Logged}
use Rattle.pm_host.proofs.RunsJoin.{child_after-append}
use Rattle.pm_journal.specs.Children.{run_calls, not_started, was_run}
use Rattle.pm_journal.specs.ChildLaws.{ChildrenEnd}

-- whatever comes before it, a `finish` leaves no child
finish_last : (calls : List Logged) (finished : Finished) (k : Child) → child_after (calls ++ logged Finish (AnswerFinish finished) ∷ []) k ≡ NoChild
finish_last calls finished k = child_after-append calls (logged Finish (AnswerFinish finished) ∷ []) k

frame_ends : (command : Command) (want : Bool) (feeds takes : List Logged) (finished : Finished) → child_after (run_calls command want feeds takes finished) NoChild ≡ NoChild
frame_ends command want feeds takes finished =
    child_after-append feeds (takes ++ logged Finish (AnswerFinish finished) ∷ []) Feeding ∙ finish_last takes finished (child_after feeds Feeding)

pub children_end : ChildrenEnd
children_end command input want reply calls (inl (not_started reply_is calls_are)) = ap (λ l. child_after l NoChild) calls_are
children_end command input want reply calls (inl (was_run r)) =
    ap (λ l. child_after l NoChild) r.calls_are ∙ frame_ends command want r.feeds r.takes r.finished
children_end command input want reply calls (inr l) =
    ap (λ l. child_after l NoChild) l.calls_are ∙ frame_ends command true l.feeds l.takes l.finished
