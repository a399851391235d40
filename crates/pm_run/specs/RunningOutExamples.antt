-- Where memory may be wanting in a process, and where it may not, in short cases.
use Rattle.std.specs.Prelude.{ℕ, List, [], ◌∷◌, None, false, codes}
use Rattle.pm_recipe.specs.Colon.{flags_of}
use Rattle.pm_recipe.specs.Tree.{Top, Recipe, Act, Mailbox, Block, Unset, nil}
use Rattle.pm_journal.specs.declared.acts.Act.{Act as Asked}
use Rattle.pm_journal.specs.declared.acts.Act.TheVariants.{Unlock, Run, SayErr}
use Rattle.pm_journal.specs.declared.acts.Entry.{Entry}
use Rattle.pm_journal.specs.declared.acts.Reply.{Reply}
use Rattle.pm_journal.specs.declared.acts.Reply.TheVariants.{Done, Torn, Removed, Faulted, Wrote, Ended}
use Rattle.pm_meaning.specs.Examples.{process, process_with, variable}
use Rattle.pm_meaning.specs.Running.{State, Running, FallingOff, Leaving, Over, Trapping, Unlocking, Closing, Do}
use Rattle.pm_meaning.specs.declared.ending.Ending.{Ending}
use Rattle.pm_meaning.specs.declared.process.End.TheVariants.{Delivered, FellOff}
use Rattle.pm_perform.specs.Examples.{append, command}
use Rattle.pm_run.specs.RunningOut.{MayRunOut}

-- an act with its reply, where no count of faults rose
abbrev pub noted : Asked → Reply → Entry
noted act reply = record { act = act; reply = reply; before = record { host = 0; out = 0; err = 0 }; after = record { host = 0; out = 0; err = 0 } }

-- a recipe of these letters with no condition
abbrev pub top : List ℕ → Top
top letters = record { flags = flags_of letters; lock = None; conditions = [] }

-- a process that stands at it
abbrev pub at_recipe : List ℕ → Act → State
at_recipe letters act = Running (Do (Recipe (top letters) act) ∷ []) process

-- how a process ended
abbrev pub ending : Ending
ending = record { end = Delivered; status = 0 }

-- may be wanting or may not
pub record OfRunningOut : Type 0 where
  -- a recipe's mailbox has the mail, or has a first part of it, or has it as a copy
  pub delivered : MayRunOut (at_recipe [] (Mailbox (codes "mbox"))) (noted append Done ∷ []) → ⊥
  pub torn : MayRunOut (at_recipe [] (Mailbox (codes "mbox"))) (noted append (Torn 1) ∷ [])
  pub copied : MayRunOut (at_recipe (codes "c") (Mailbox (codes "mbox"))) (noted append Done ∷ [])
  pub begun : MayRunOut (at_recipe [] (Mailbox (codes "mbox"))) []
  -- a recipe's program has the mail, and a block is entered
  pub fed : MayRunOut (at_recipe [] (Mailbox (codes "mbox"))) (noted (Run command (codes "mail") false) (Ended 1 4 []) ∷ []) → ⊥
  pub block : MayRunOut (at_recipe [] (Block nil)) (noted (SayErr (codes "a")) Wrote ∷ [])
  -- a default mailbox has the mail, or has a first part of it, or none is left
  pub by_default : MayRunOut (FallingOff (codes "mbox" ∷ []) process) (noted append Done ∷ []) → ⊥
  pub torn_by_default : MayRunOut (FallingOff (codes "mbox" ∷ []) process) (noted append (Torn 1) ∷ [])
  pub none_left : MayRunOut (FallingOff [] process) []
  -- a process leaves its blocks, and LOCKFILE's lock, and a lock file is removed, or can't be
  pub unlocked : MayRunOut (Leaving [] Delivered process) (noted (Unlock (codes "l")) Removed ∷ []) → ⊥
  pub stuck : MayRunOut (Leaving [] Delivered process) (noted (Unlock (codes "l")) Faulted ∷ [])
  pub lockfile : MayRunOut (Unlocking ending process) [] → ⊥
  pub lockfile_stuck : MayRunOut (Unlocking ending process) (noted (Unlock (codes "l")) Faulted ∷ [])
  -- the abstract of a delivery is logged, or there is none
  pub no_log : MayRunOut (Over Delivered process) [] → ⊥
  pub log : MayRunOut (Over Delivered (process_with (variable (codes "LOGFILE") (codes "log") ∷ []))) []
  pub log_of_none : MayRunOut (Over FellOff (process_with (variable (codes "LOGFILE") (codes "log") ∷ []))) [] → ⊥
  -- TRAP's program runs, or doesn't
  pub no_trap : MayRunOut (Trapping Delivered process) [] → ⊥
  pub trap : MayRunOut (Trapping Delivered (process_with (variable (codes "TRAP") (codes "x") ∷ []))) []
  -- nothing is left but to give locks back
  pub closing : MayRunOut (Closing ending process) [] → ⊥
  -- a statement that is no recipe
  pub unset : MayRunOut (Running (Do (Unset (codes "A")) ∷ []) process) (noted (SayErr (codes "a")) Wrote ∷ [])
