-- Short journals, and what is printed of them.
use Rattle.std.specs.Prelude.{◌≡◌, ℕ, Bool, true, false, pos, List, [], ◌∷◌, Some, None, codes}
use Rattle.pm_bytes.specs.declared.environment.Pair.{Pair}
use Rattle.pm_host.specs.declared.command.Command.{Command}
use Rattle.pm_journal.specs.declared.acts.Act.{Act}
use Rattle.pm_journal.specs.declared.acts.Act.TheVariants.{ReadFile, Probe, Append, Place, Lock, Unlock, Run, SayFile, SayErr, WriteOut, Moment}
use Rattle.pm_journal.specs.declared.acts.Entry.{Entry}
use Rattle.pm_journal.specs.declared.acts.Reply.{Reply}
use Rattle.pm_journal.specs.declared.acts.Reply.TheVariants.{Content, Missing, Done, Undone, Placed, NamesOut, Held, Busy, Removed, Gone, Ended, NotStarted, Wrote, Short, Now}
use Rattle.pm_journal.specs.declared.placing.FolderKind.TheVariants.{Maildir}
use Rattle.pm_journal.specs.declared.placing.Stamp.{Stamp}
use Rattle.explain_text.specs.Destinations.{destinations_of, value_in}
use Rattle.explain_text.specs.Lines.{step_line, result_line}
use Rattle.explain_text.specs.Steps.{step, step_for, steps_of}
use Rattle.explain_text.specs.declared.destination.Destination.TheVariants.{File, Folder, Program, Forward, Output}
use Rattle.explain_text.specs.declared.step.Kind.{Kind}
use Rattle.explain_text.specs.declared.step.Kind.TheVariants as kind
use Rattle.explain_text.specs.declared.step.Step.{Step}

-- a program that ended so, and a log that got a text
abbrev pub ran_step : Kind → List ℕ → ℕ → Step
ran_step k line code = record { kind = k; name = line; bytes = 67; done = true; code = code; text = [] }

abbrev pub logged_step : List ℕ → Step
logged_step text = record { kind = kind.Log; name = codes "log"; bytes = 4; done = true; code = 0; text = text }

-- The line of each kind of step.
pub record OfLines : Type 0 where
  pub read : step_line (step kind.Read (codes "rc") 30 true) ≡ codes "  read rc: 30 bytes\n"
  pub unread : step_line (step kind.Read (codes "rc") 0 false) ≡ codes "  read rc: not done\n"
  pub append : step_line (step kind.Append (codes "mbox") 67 true) ≡ codes "  append 67 bytes to mbox\n"
  pub not_appended : step_line (step kind.Append (codes "mbox") 67 false) ≡ codes "  append 67 bytes to mbox: not done\n"
  pub file : step_line (step kind.File (codes "md/new/1.2_3.mx") 67 true) ≡ codes "  file 67 bytes as md/new/1.2_3.mx\n"
  pub lock : step_line (step kind.Lock (codes "mbox.lock") 0 true) ≡ codes "  lock mbox.lock\n"
  pub unlock : step_line (step kind.Unlock (codes "mbox.lock") 0 true) ≡ codes "  unlock mbox.lock\n"
  pub run : step_line (ran_step kind.Run (codes "taker x") 3) ≡ codes "  run taker x < 67 bytes: 3 [not started]\n"
  pub filter : step_line (ran_step kind.Filter (codes "cat") 0) ≡ codes "  run cat < 67 bytes: 0, output taken [not started]\n"
  pub log : step_line (logged_step (codes "a\tb\n")) ≡ codes "  log to log: a b \n"
  pub say : step_line (step kind.Say (codes "hello\n") 6 true) ≡ codes "  say hello \n"
  pub write : step_line (step kind.Write (codes "standard output") 67 true) ≡ codes "  write 67 bytes to standard output\n"

-- the command of a shell, which finds these variables
abbrev pub command : List ℕ → List Pair → Command
command line env = record { program = codes "/bin/sh"; args = codes "-c" ∷ line ∷ []; env = env; folder = codes "." }

-- a variable
abbrev pub pair : List ℕ → List ℕ → Pair
pair name value = record { name = name; value = value }

abbrev pub stamp : Stamp
stamp = record { moment = pos 1; pid = 2; serial = 3; host_name = codes "mx" }

-- a piece that is filed in the maildir `md`
abbrev pub placed : Act
placed = Place Maildir (codes "md") [] (codes "abc") stamp

-- an act with its reply
abbrev pub entry : Act → Reply → Entry
entry act reply = record { act = act; reply = reply; before = record { host = 0; out = 0; err = 0 }; after = record { host = 0; out = 0; err = 0 } }

-- The step of each act, done and not done.
pub record OfSteps : Type 0 where
  pub read : step_for (ReadFile (codes "rc")) (Content (codes "abc")) ≡ Some (step kind.Read (codes "rc") 3 true)
  pub unread : step_for (ReadFile (codes "rc")) Missing ≡ Some (step kind.Read (codes "rc") 0 false)
  pub looked : step_for (Probe (codes "rc")) Missing ≡ None
  pub append : step_for (Append (codes "mbox") (codes "abc")) Done ≡ Some (step kind.Append (codes "mbox") 3 true)
  pub not_appended : step_for (Append (codes "mbox") (codes "abc")) Undone ≡ Some (step kind.Append (codes "mbox") 3 false)
  pub file : step_for placed (Placed (codes "md/new/1")) ≡ Some (step kind.File (codes "md/new/1") 3 true)
  pub no_file : step_for placed NamesOut ≡ Some (step kind.File (codes "md") 3 false)
  pub lock : step_for (Lock (codes "l") 8 1024 16 5) (Held 0 0) ≡ Some (step kind.Lock (codes "l") 0 true)
  pub busy : step_for (Lock (codes "l") 8 1024 16 5) Busy ≡ Some (step kind.Lock (codes "l") 0 false)
  pub unlock : step_for (Unlock (codes "l")) Removed ≡ Some (step kind.Unlock (codes "l") 0 true)
  pub lost : step_for (Unlock (codes "l")) Gone ≡ Some (step kind.Unlock (codes "l") 0 false)
  pub run : step_for (Run (command (codes "x") []) (codes "abc") false) (Ended 3 2 []) ≡ Some (record { kind = kind.Run; name = codes "x"; bytes = 3; done = true; code = 3; text = [] })
  pub filter : step_for (Run (command (codes "x") []) (codes "abc") true) NotStarted ≡ Some (record { kind = kind.Filter; name = codes "x"; bytes = 3; done = false; code = 0; text = [] })
  pub log : step_for (SayFile (codes "log") (codes "abc")) Done ≡ Some (record { kind = kind.Log; name = codes "log"; bytes = 3; done = true; code = 0; text = codes "abc" })
  pub say : step_for (SayErr (codes "abc")) Wrote ≡ Some (step kind.Say (codes "abc") 3 true)
  pub write : step_for (WriteOut (codes "abc")) (Short 1) ≡ Some (step kind.Write (codes "standard output") 3 false)
  pub moment : step_for Moment (Now (pos 1)) ≡ None
  pub in_order : steps_of (entry Moment (Now (pos 1)) ∷ entry (Unlock (codes "l")) Removed ∷ entry (SayErr (codes "a")) Wrote ∷ []) ≡ step kind.Unlock (codes "l") 0 true ∷ step kind.Say (codes "a") 1 true ∷ []

-- The last line of a run.
pub record OfResults : Type 0 where
  pub nowhere : result_line [] 73 ≡ codes "not delivered, status 73. Nothing was changed.\n"
  pub mailbox : result_line (step kind.Append (codes "mbox") 3 true ∷ step kind.Unlock (codes "l") 0 true ∷ []) 0 ≡ codes "delivered to mbox, status 0. Nothing was changed.\n"
  pub last : result_line (step kind.Append (codes "a") 3 true ∷ step kind.File (codes "b") 3 true ∷ []) 0 ≡ codes "delivered to b, status 0. Nothing was changed.\n"
  pub failed : result_line (step kind.Append (codes "a") 3 false ∷ []) 73 ≡ codes "not delivered, status 73. Nothing was changed.\n"
  pub program : result_line (ran_step kind.Run (codes "x") 0 ∷ []) 0 ≡ codes "delivered to x, status 0. Nothing was changed.\n"
  pub failure : result_line (ran_step kind.Run (codes "x") 1 ∷ []) 73 ≡ codes "not delivered, status 73. Nothing was changed.\n"
  pub filter : result_line (ran_step kind.Filter (codes "x") 0 ∷ []) 73 ≡ codes "not delivered, status 73. Nothing was changed.\n"
  pub output : result_line (step kind.Write (codes "standard output") 3 true ∷ []) 0 ≡ codes "delivered to standard output, status 0. Nothing was changed.\n"
  pub log : result_line (logged_step (codes "a") ∷ []) 73 ≡ codes "not delivered, status 73. Nothing was changed.\n"

-- LASTFOLDER, and how mail is sent on
abbrev pub last : List ℕ → List Pair
last name = pair (codes "LASTFOLDER") name ∷ pair (codes "SENDMAIL") (codes "/usr/sbin/sendmail") ∷ pair (codes "SENDMAILFLAGS") (codes "-oi") ∷ []

-- a program that got the mail, found this LASTFOLDER and ended with 0
abbrev pub ran : List ℕ → List ℕ → Entry
ran line name = entry (Run (command line (last name)) (codes "abc") false) (Ended 0 3 [])

-- SENDMAIL with these words, which ended so
abbrev pub sent : List (List ℕ) → ℕ → Entry
sent words code = entry (Run (record { program = codes "/usr/sbin/sendmail"; args = words; env = last []; folder = codes "." }) (codes "abc") false) (Ended code 3 [])

-- the program of TRAP
abbrev pub trapped : List ℕ → List Entry
trapped name = ran (codes "t") name ∷ []

-- Where a run delivered.
pub record OfDestinations : Type 0 where
  pub mailbox : destinations_of (entry (Append (codes "mbox") (codes "abc")) Done ∷ trapped (codes "mbox")) ≡ File (codes "mbox") ∷ []
  pub not_written : destinations_of (entry (Append (codes "mbox") (codes "abc")) Undone ∷ trapped []) ≡ []
  pub directory : destinations_of (entry placed (Placed (codes "md/new/1")) ∷ trapped (codes "md/new/1")) ≡ Folder (codes "md") ∷ []
  pub no_file : destinations_of (entry placed NamesOut ∷ trapped []) ≡ []
  pub output : destinations_of (entry (WriteOut (codes "abc")) Wrote ∷ trapped (codes "|")) ≡ Output ∷ []
  pub short : destinations_of (entry (WriteOut (codes "abc")) (Short 1) ∷ trapped []) ≡ []
  pub copies : destinations_of (entry (Append (codes "a") (codes "abc")) Done ∷ entry (Append (codes "b") (codes "abc")) Done ∷ trapped (codes "b")) ≡ File (codes "a") ∷ File (codes "b") ∷ []
  -- a program delivers where LASTFOLDER is new after it, or an abstract comes
  pub program : destinations_of (ran (codes "x") [] ∷ trapped (codes "x")) ≡ Program (codes "x") ∷ []
  pub abstract_of_copy : destinations_of (ran (codes "x") [] ∷ entry (SayFile (codes "log") (codes "  Folder: x 3\n")) Done ∷ entry (Append (codes "b") (codes "abc")) Done ∷ trapped (codes "b")) ≡ Program (codes "x") ∷ File (codes "b") ∷ []
  pub abstract_said : destinations_of (ran (codes "x") [] ∷ entry (SayErr (codes "From a\n  Folder: x 3\n")) Wrote ∷ trapped []) ≡ Program (codes "x") ∷ []
  pub condition : destinations_of (ran (codes "x") [] ∷ trapped []) ≡ []
  pub condition_before_mailbox : destinations_of (ran (codes "x") [] ∷ entry (Append (codes "b") (codes "abc")) Done ∷ trapped (codes "b")) ≡ File (codes "b") ∷ []
  pub condition_before_directory : destinations_of (ran (codes "x") [] ∷ entry placed (Placed (codes "md/new/1")) ∷ trapped (codes "md/new/1")) ≡ Folder (codes "md") ∷ []
  pub condition_before_output : destinations_of (ran (codes "x") [] ∷ entry (WriteOut (codes "abc")) Wrote ∷ trapped (codes "|")) ≡ Output ∷ []
  pub other_text : destinations_of (ran (codes "x") [] ∷ entry (SayErr (codes "Folder\n")) Wrote ∷ trapped []) ≡ []
  pub filter : destinations_of (entry (Run (command (codes "x") (last [])) (codes "abc") true) (Ended 0 3 (codes "d")) ∷ trapped (codes "x")) ≡ []
  pub not_started : destinations_of (entry (Run (command (codes "x") (last [])) (codes "abc") false) NotStarted ∷ trapped (codes "x")) ≡ []
  -- mail that is thrown away
  pub nothing : destinations_of (trapped (codes "/dev/null")) ≡ File (codes "/dev/null") ∷ []
  pub nothing_after_condition : destinations_of (ran (codes "x") [] ∷ entry (SayFile (codes "log") (codes "  Folder: /dev/null 3\n")) Done ∷ trapped (codes "/dev/null")) ≡ File (codes "/dev/null") ∷ []
  -- mail that is sent on
  pub forward : destinations_of (sent (codes "-oi" ∷ codes "bob" ∷ codes "eve" ∷ []) 0 ∷ trapped []) ≡ Forward (codes "bob eve") ∷ []
  pub refused : destinations_of (sent (codes "-oi" ∷ codes "bob" ∷ []) 1 ∷ trapped []) ≡ []
  pub forward_told : destinations_of (sent (codes "-oi" ∷ codes "bob" ∷ []) 1 ∷ trapped (codes "!bob")) ≡ Forward (codes "bob") ∷ []
  pub option : destinations_of (sent (codes "-oi" ∷ codes "-t" ∷ []) 0 ∷ trapped (codes "x")) ≡ Program (codes "/usr/sbin/sendmail -oi -t") ∷ []
  pub no_address : destinations_of (sent (codes "-oi" ∷ []) 0 ∷ trapped []) ≡ []
  pub value : value_in (codes "B") (pair (codes "A") (codes "1") ∷ pair (codes "B") (codes "2") ∷ pair (codes "B") (codes "3") ∷ []) ≡ codes "2"
  pub no_value : value_in (codes "C") (pair (codes "A") (codes "1") ∷ []) ≡ []
