-- The entries of a journal as steps.
use Rattle.std.specs.Prelude.{ℕ, Bool, true, false, cond, codes, List, [], ◌∷◌, ◌++◌, length, Option, Some, None}
use Rattle.pm_host.specs.declared.command.Command.{Command}
use Rattle.pm_journal.specs.declared.acts.Act.{Act}
use Rattle.pm_journal.specs.declared.acts.Act.TheVariants.{ReadFile, Probe, Append, Place, Lock, Unlock, Run, SayFile, SayErr, WriteOut, Moment}
use Rattle.pm_journal.specs.declared.acts.Entry.{Entry}
use Rattle.pm_journal.specs.declared.acts.Reply.{Reply}
use Rattle.pm_journal.specs.declared.acts.Reply.TheVariants.{Content, Done, Placed, Held, Removed, Ended, Wrote}
use Rattle.pm_overlay.specs.Given.{line_of}
use Rattle.explain_text.specs.declared.step.Kind.{Kind}
use Rattle.explain_text.specs.declared.step.Kind.TheVariants.{Read as ReadKind, Append as AppendKind, File as FileKind, Lock as LockKind, Unlock as UnlockKind, Run as RunKind, Filter as FilterKind, Log as LogKind, Say as SayKind, Write as WriteKind}
use Rattle.explain_text.specs.declared.step.Step.{Step}

-- a step without a text and a code
abbrev pub step : Kind → List ℕ → ℕ → Bool → Step
step kind name bytes done = record { kind = kind; name = name; bytes = bytes; done = done; code = 0; text = [] }

-- all of it was appended, or added to a log
abbrev pub is_done : Reply → Bool
is_done Done = true
is_done other = false

-- the lock was taken
abbrev pub is_held : Reply → Bool
is_held (Held sleeps forced) = true
is_held other = false

-- the lock was given back
abbrev pub is_removed : Reply → Bool
is_removed Removed = true
is_removed other = false

-- all of it was written
abbrev pub is_wrote : Reply → Bool
is_wrote Wrote = true
is_wrote other = false

-- whether a program ended, and its code
abbrev pub ended : Reply → Bool × ℕ
ended (Ended code took output) = (true, code)
ended other = (false, 0)

-- a file was read, or not
abbrev pub read_step : List ℕ → Reply → Step
read_step name (Content bytes) = step ReadKind name (length bytes) true
read_step name other = step ReadKind name 0 false

-- a piece became a file of its own, or not
abbrev pub place_step : List ℕ → List ℕ → Reply → Step
place_step folder piece (Placed name) = step FileKind name (length piece) true
place_step folder piece other = step FileKind folder (length piece) false

-- a program was run
abbrev pub run_step : Command → List ℕ → Bool → Reply → Step
run_step command input want reply = record { kind = cond want FilterKind RunKind; name = line_of command; bytes = length input; done = (ended reply).0; code = (ended reply).1; text = [] }

-- a log file got a text
abbrev pub log_step : List ℕ → List ℕ → Reply → Step
log_step name text reply = record { kind = LogKind; name = name; bytes = length text; done = is_done reply; code = 0; text = text }

-- standard error got a text
abbrev pub say_step : List ℕ → Reply → Step
say_step text reply = step SayKind text (length text) (is_wrote reply)

-- standard output got a piece
abbrev pub write_step : List ℕ → Reply → Step
write_step piece reply = step WriteKind (codes "standard output") (length piece) (is_wrote reply)

-- the step that an act with its reply is, if it is one
abbrev pub step_for : Act → Reply → Option Step
step_for (ReadFile name) reply = Some (read_step name reply)
step_for (Probe name) reply = None
step_for (Append name piece) reply = Some (step AppendKind name (length piece) (is_done reply))
step_for (Place kind folder prefix piece stamp) reply = Some (place_step folder piece reply)
step_for (Lock name sleep limit suspend tries) reply = Some (step LockKind name 0 (is_held reply))
step_for (Unlock name) reply = Some (step UnlockKind name 0 (is_removed reply))
step_for (Run command input want) reply = Some (run_step command input want reply)
step_for (SayFile name text) reply = Some (log_step name text reply)
step_for (SayErr text) reply = Some (say_step text reply)
step_for (WriteOut piece) reply = Some (write_step piece reply)
step_for Moment reply = None

-- the step that an entry is
abbrev pub step_of : Entry → Option Step
step_of entry = step_for entry.act entry.reply

-- it, if there is one
abbrev pub listed : Option Step → List Step
listed None = []
listed (Some one) = one ∷ []

-- the steps of a journal, in order
abbrev pub steps_of : List Entry → List Step
steps_of [] = []
steps_of (entry ∷ entries) = listed (step_of entry) ++ steps_of entries
