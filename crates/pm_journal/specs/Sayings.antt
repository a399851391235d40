-- One log act, and the writing of a text to a sink.
use Rattle.std.specs.Prelude.{ℕ, List, Option, Some, None}
use Rattle.pm_journal.specs.JournalState.{JournalState}
use Rattle.pm_journal.specs.Entries.{View}
use Rattle.pm_journal.specs.Noted.{NotesAct}
use Rattle.pm_journal.specs.declared.acts.Act.{Act}
use Rattle.pm_journal.specs.declared.acts.Act.TheVariants.{SayFile, SayErr}
use Rattle.pm_journal.specs.declared.acts.Reply.{Reply}
use Rattle.pm_journal.specs.declared.acts.Reply.TheVariants.{Wrote as ReplyWrote, Short as ReplyShort}
use Rattle.pm_journal.specs.declared.saying.WriteEnd.{WriteEnd}
use Rattle.pm_journal.specs.declared.saying.WriteEnd.TheVariants.{Wrote, Short}

-- what a writing that ended so answers
abbrev pub say_reply : WriteEnd → Reply
say_reply Wrote = ReplyWrote
say_reply (Short n) = ReplyShort n

-- a text goes to a file, or to `err`
abbrev pub say_act : Option (List ℕ) → List ℕ → Act
say_act (Some name) text = SayFile name text
say_act None text = SayErr text

-- the text was said, with some reply, and noted
pub record NotesSaid (to : Option (List ℕ)) (text : List ℕ) (old new : JournalState) (before after : View) : Type 0 where
  pub reply : Reply
  pub notes : NotesAct (say_act to text) reply old new before after
