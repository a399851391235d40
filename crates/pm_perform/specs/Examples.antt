-- Which acts deliver the mail, and after which memory can be wanting, in short cases.
use Rattle.std.specs.Prelude.{◌≡◌, true, false, [], codes, pos}
use Rattle.pm_host.specs.declared.command.Command.{Command}
use Rattle.pm_recipe.specs.Colon.{flags_of}
use Rattle.pm_journal.specs.declared.acts.Act.{Act}
use Rattle.pm_journal.specs.declared.acts.Act.TheVariants.{Append, Place, Lock, Unlock, Run, SayErr, WriteOut, Moment}
use Rattle.pm_journal.specs.declared.acts.Reply.TheVariants.{Done, Torn, IsFolder, Placed, TornAt, Held, Busy, Faulted, Removed, Ended, NotStarted, Wrote, Short, Now}
use Rattle.pm_journal.specs.declared.placing.FolderKind.TheVariants.{Maildir}
use Rattle.pm_perform.specs.Undelivered.{delivers, hinders}

-- an act with the mail `mail`
abbrev pub append : Act
append = Append (codes "mbox") (codes "mail")

abbrev pub place : Act
place = Place Maildir (codes "md") [] (codes "mail") (record { moment = pos 0; pid = 1; serial = 1; host_name = codes "mx" })

abbrev pub lock : Act
lock = Lock (codes "mbox.lock") 8 1024 16 1000

abbrev pub command : Command
command = record { program = codes "a"; args = []; env = []; folder = codes "Mail" }

-- what was done with the mail
pub record OfActs : Type 0 where
  -- a mailbox or a folder has it whole or it isn't delivered
  pub appended : delivers (flags_of []) append Done ≡ true
  pub torn : delivers (flags_of []) append (Torn 1) ≡ false
  pub folder : delivers (flags_of []) append IsFolder ≡ false
  pub placed : delivers (flags_of []) place (Placed (codes "md/new/1")) ≡ true
  pub torn_there : delivers (flags_of []) place (TornAt (codes "md/new/1") 1) ≡ false
  -- a program gets all of it, and under w its exit code counts
  pub fed : delivers (flags_of []) (Run command (codes "mail") false) (Ended 1 4 []) ≡ true
  pub failed : delivers (flags_of (codes "w")) (Run command (codes "mail") false) (Ended 1 4 []) ≡ false
  pub left : delivers (flags_of []) (Run command (codes "mail") false) (Ended 0 3 []) ≡ false
  pub may_leave : delivers (flags_of (codes "i")) (Run command (codes "mail") false) (Ended 0 3 []) ≡ true
  pub not_started : delivers (flags_of []) (Run command (codes "mail") false) NotStarted ≡ false
  -- a filter or a backquoted command delivers nothing
  pub filtered : delivers (flags_of []) (Run command (codes "mail") true) (Ended 0 4 (codes "x")) ≡ false
  pub written : delivers (flags_of []) (WriteOut (codes "mail")) Wrote ≡ true
  pub short : delivers (flags_of []) (WriteOut (codes "mail")) (Short 3) ≡ false
  pub said : delivers (flags_of []) (SayErr (codes "mail")) Wrote ≡ false
  -- memory is wanted after a delivery where another mailbox didn't get it, and for the name of a file in a folder
  pub whole : hinders append Done ≡ false
  pub another : hinders append (Torn 1) ≡ true
  pub moment : hinders Moment (Now (pos 0)) ≡ true
  -- and for a line about a lock file that was removed by force or can't be removed
  pub plain_lock : hinders lock (Held 3 0) ≡ false
  pub forced : hinders lock (Held 0 1) ≡ true
  pub busy : hinders lock Busy ≡ false
  pub removed : hinders (Unlock (codes "mbox.lock")) Removed ≡ false
  pub stuck : hinders (Unlock (codes "mbox.lock")) Faulted ≡ true
  pub program : hinders (Run command (codes "mail") false) NotStarted ≡ false
