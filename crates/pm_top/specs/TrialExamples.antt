-- A trial's words, messages and report, and the lines before a status, form by form (procmail(1)).
use Rattle.std.specs.Prelude.{ℕ, List, [], ◌∷◌, ◌≡◌, Option, Some, None, codes}
use Rattle.pm_journal.specs.declared.acts.Act.{Act}
use Rattle.pm_journal.specs.declared.acts.Act.TheVariants.{ReadFile, Append, Lock, Unlock}
use Rattle.pm_journal.specs.declared.acts.Entry.{Entry}
use Rattle.pm_journal.specs.declared.acts.Reply.{Reply}
use Rattle.pm_journal.specs.declared.acts.Reply.TheVariants.{Missing, Done, Undone, Held, Removed}
use Rattle.pm_meaning.specs.declared.status.Status.TheVariants.{Success, Usage, DataError, NoInput, SystemError, InputOutput}
use Rattle.pm_top.specs.Counting.{totals_of}
use Rattle.pm_top.specs.Messages.{message_of}
use Rattle.pm_top.specs.Outcome.{status_line}
use Rattle.pm_top.specs.Report.{report_of}
use Rattle.pm_top.specs.TrialWords.{trial_count}

-- an entry of an act with its reply
abbrev pub entry : Act → Reply → Entry
entry act reply = record { act = act; reply = reply; before = record { host = 0; out = 0; err = 0 }; after = record { host = 0; out = 0; err = 0 } }

-- the words `--trial` and this one
abbrev pub trial : List ℕ → Option ℕ
trial number = trial_count (codes "--trial" ∷ number ∷ [])

-- what a run does under a lock: a mailbox gets 2 bytes, another can't take 3
abbrev pub deliveries : List Entry
deliveries =
    entry (ReadFile (codes "rc")) Missing ∷ entry (Lock (codes "a.lock") 8 1024 16 1000) (Held 0 0) ∷ entry (Append (codes "a") (codes "x\n")) Done
    ∷ entry (Append (codes "b") (codes "xy\n")) Undone ∷ entry (Unlock (codes "a.lock")) Removed ∷ []

-- what holds of them
pub record TrialExamples : Type 0 where
  -- 1 to 2,000 messages
  pub least : trial (codes "1") ≡ Some 1
  pub most : trial (codes "2000") ≡ Some 2000
  pub none : trial (codes "0") ≡ None
  pub too_many : trial (codes "2001") ≡ None
  pub digits : trial (codes "0012") ≡ Some 12
  pub five_digits : trial (codes "00012") ≡ None
  pub no_number : trial (codes "1x") ≡ None
  pub empty : trial [] ≡ None
  pub other_option : trial_count (codes "trial" ∷ codes "1" ∷ []) ≡ None
  pub alone : trial_count (codes "--trial" ∷ []) ≡ None
  pub more : trial_count (codes "--trial" ∷ codes "1" ∷ codes "rc" ∷ []) ≡ None
  -- five addresses in turn, and bodies of none to three lines in turn
  pub first : message_of 0 ≡ codes "From t Thu Jan  1 00:00:00 1970\nTo: l0@x\nSubject: 0\n\n"
  pub eleventh : message_of 11 ≡ codes "From t Thu Jan  1 00:00:00 1970\nTo: l1@x\nSubject: 11\n\nline\nline\nline\n"
  -- appends and locks count, whatever came of them
  pub counted : totals_of deliveries ≡ record { entries = 5; appends = 2; locks = 1; bytes = 5 }
  pub report : report_of 10 (record { entries = 34; appends = 16; locks = 4; bytes = 954 }) ≡ codes "messages 10\nentries 34\nappends 16\nlocks 4\nbytes 954\n"
  -- a run that ends before it begins says why
  pub bad_words : status_line Usage ≡ codes "procmail: Bad words\n"
  pub too_long : status_line DataError ≡ codes "procmail: Message too long\n"
  pub no_rcfile : status_line NoInput ≡ codes "procmail: No rcfile\n"
  pub no_memory : status_line SystemError ≡ codes "procmail: Out of memory\n"
  pub unread : status_line InputOutput ≡ codes "procmail: Couldn't read the message\n"
  pub success : status_line Success ≡ []
