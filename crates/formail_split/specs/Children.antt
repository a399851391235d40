-- Each part of a mailbox is edited and given to a child of its own.
use Rattle.std.specs.Prelude.{◌≡◌, ℕ, ℤ, List, map}
use Rattle.pm_host.specs.Told.{HostView}
use Rattle.pm_host.specs.Runs.{Ran}
use Rattle.pm_host.specs.declared.command.Command.{Command}
use Rattle.pm_journal.specs.declared.acts.Reply.{Reply}
use Rattle.pm_message.specs.Split.{split_of}
use Rattle.pm_pipe.specs.Runs.{fed_reply}
use Rattle.pm_pipe.specs.declared.child.Fate.{Fate}
use Rattle.formail_edit.specs.Output.{edited}
use Rattle.formail_edit.specs.Sender.{line_at}
use Rattle.formail_edit.specs.declared.edits.Edits.{Edits}
use Rattle.formail_split.specs.Feeding.{ChildRun, EachFed, calls_of}

-- a part after the edits, with the line in front that is due at a moment
abbrev pub edited_at : ℤ → Edits → List ℕ → List ℕ
edited_at moment edits part = edited (split_of part) edits (line_at moment (split_of part) edits)

-- the replies of some runs
abbrev pub replies_of : List ChildRun → List Reply
replies_of runs = map (λ run. run.reply) runs

-- each text was given to a child of its own, in order, and each child ended so; nothing else was asked of the host
pub record EachRan (command : Command) (texts : List (List ℕ)) (rans : List Fate) (before after : HostView) : Type 0 where
  pub runs : List ChildRun
  pub each : EachFed command texts runs
  pub ran : Ran (calls_of runs) before after
  pub ends : replies_of runs ≡ map fed_reply rans
