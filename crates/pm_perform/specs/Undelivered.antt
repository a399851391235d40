-- Which acts deliver the mail, and that none did.
use Rattle.std.specs.Prelude.{◌≡◌, Bool, true, false, not, ◌&&◌, ◌++◌, List, length, nat_lt}
use Rattle.std.specs.List.{list_any}
use Rattle.pm_recipe.specs.declared.tree.Flags.{Flags}
use Rattle.pm_journal.specs.JournalState.{JournalState}
use Rattle.pm_journal.specs.Outcomes.{run_end}
use Rattle.pm_journal.specs.declared.acts.Act.{Act}
use Rattle.pm_journal.specs.declared.acts.Act.TheVariants.{Append, Place, Lock, Unlock, Run, WriteOut, Moment}
use Rattle.pm_journal.specs.declared.acts.Reply.{Reply}
use Rattle.pm_journal.specs.declared.acts.Reply.TheVariants.{Done, Placed, Held}
use Rattle.pm_journal.specs.declared.acts.Entry.{Entry}
use Rattle.pm_meaning.specs.Locks.{is_fault}
use Rattle.pm_meaning.specs.ProgramActions.{feed_outcome, write_outcome, is_fine}

-- the file has the piece whole
abbrev pub is_done : Reply → Bool
is_done Done = true
is_done other = false

-- the folder has the piece as a file of its own
abbrev pub is_placed : Reply → Bool
is_placed (Placed name) = true
is_placed other = false

-- a lock file was removed by force before the lock was got
abbrev pub is_forced : Reply → Bool
is_forced (Held sleeps forced) = nat_lt 0 forced
is_forced other = false

-- By this act the mail was delivered: to a mailbox, to a folder, to a program whose output isn't wanted and that by these flags
-- didn't fail, or to standard output.
abbrev pub delivers : Flags → Act → Reply → Bool
delivers flags (Append name piece) reply = is_done reply
delivers flags (Place kind folder prefix piece stamp) reply = is_placed reply
delivers flags (Run command input want) reply = not want && is_fine (feed_outcome flags (length input) (run_end reply))
delivers flags (WriteOut piece) reply = is_fine (write_outcome reply)
delivers flags other reply = false

-- With this act memory can be wanting after a delivery: a mailbox didn't get the mail, a file in a folder is to be named by the moment,
-- or a lock file was removed by force or can't be removed, which is logged.
abbrev pub hinders : Act → Reply → Bool
hinders (Append name piece) reply = not (is_done reply)
hinders Moment reply = true
hinders (Lock name sleep limit suspend tries) reply = is_forced reply
hinders (Unlock name) reply = is_fault reply
hinders other reply = false

-- one of these entries delivered the mail
abbrev pub any_delivers : Flags → List Entry → Bool
any_delivers flags entries = list_any (λ e. delivers flags e.act e.reply) entries

-- one of these entries is such a hindrance
abbrev pub any_hinders : List Entry → Bool
any_hinders entries = list_any (λ e. hinders e.act e.reply) entries

-- where the flags ask for no copy the new entries delivered nothing, unless one of them is a hindrance
pub record Undelivered (flags : Flags) (old new : JournalState) : Type 0 where
  pub more : List Entry
  pub entries : new.entries ≡ old.entries ++ more
  pub none : flags.copy ≡ false → any_hinders more ≡ false → any_delivers flags more ≡ false
