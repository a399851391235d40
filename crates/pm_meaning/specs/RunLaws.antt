-- Laws of plans and processes.
use Rattle.std.specs.Prelude.{◌≡◌, ℕ, true, false, List, [], ◌∷◌, ◌++◌, map, Option, Some, None, length}
use Rattle.pm_bytes.specs.declared.environment.Environ.{Environ}
use Rattle.pm_host.specs.declared.command.Command.{Command}
use Rattle.pm_recipe.specs.Tree.{Top, Mailbox, Pipe, Forward, WriteOut as WriteOutAction, Recipe}
use Rattle.pm_recipe.specs.declared.tree.Flags.{Flags}
use Rattle.pm_subst.specs.Commands.{commands_in}
use Rattle.pm_subst.specs.Words.{words_in}
use Rattle.pm_subst.specs.declared.kinds.Mode.TheVariants.{One, Many}
use Rattle.pm_journal.specs.Plan.{Plan, Plays, Wants}
use Rattle.pm_journal.specs.Walking.{Next, Means, ArrivesAt}
use Rattle.pm_journal.specs.declared.acts.Act.{Act}
use Rattle.pm_journal.specs.declared.acts.Act.TheVariants.{Unlock, Run, SayErr, SayFile, WriteOut}
use Rattle.pm_journal.specs.declared.acts.Reply.TheVariants.{Held, Wrote}
use Rattle.pm_journal.specs.Outcomes.{run_end}
use Rattle.pm_journal.specs.Locking.{lock_act}
use Rattle.pm_journal.specs.declared.locking.LockRule.{LockRule}
use Rattle.pm_journal.specs.declared.acts.Entry.{Entry}
use Rattle.pm_meaning.specs.Delivering.{mailbox_piece, folder_piece, Ready, make_ready}
use Rattle.pm_meaning.specs.Destinations.{destination_of, are_file_texts}
use Rattle.pm_meaning.specs.Chains.{is_admitted, executed}
use Rattle.pm_meaning.specs.Locks.{text_or}
use Rattle.pm_meaning.specs.declared.question.Judgement.TheVariants.{Matched}
use Rattle.pm_meaning.specs.Judging.{judge, judged_with}
use Rattle.pm_meaning.specs.Minds.{Mind}
use Rattle.pm_meaning.specs.ProgramActions.{Task, feed_outcome, fed_piece, lock_commands, pipe_task, forward_task, write_task}
use Rattle.pm_meaning.specs.Programs.{Reading, line_reading}
use Rattle.pm_meaning.specs.Forwards.{forward_reading}
use Rattle.pm_meaning.specs.Delivering.{no_flags}
use Rattle.pm_meaning.specs.Laws.{AllHave}
use Rattle.pm_meaning.specs.Courses.{Course, advance, run_of}
use Rattle.pm_meaning.specs.Running.{State, Running, FallingOff, Do}
use Rattle.pm_meaning.specs.declared.command_line.CommandLine.{CommandLine}
use Rattle.pm_meaning.specs.declared.process.Destination.{Destination}
use Rattle.pm_meaning.specs.declared.process.End.TheVariants.{Delivered}
use Rattle.pm_meaning.specs.declared.ending.Ending.{Ending}
use Rattle.pm_meaning.specs.declared.process.Outcome.TheVariants.{Done}
use Rattle.pm_meaning.specs.declared.process.ProgramLine.{ProgramLine}
use Rattle.pm_meaning.specs.declared.process.ProgramLine.TheVariants.{Runs}

-- a plan that ends over a list of entries asks for no further act over that list
abbrev pub EndsOrWants : Type 0
EndsOrWants = (plan : Plan (Next Course Ending)) (entries : List Entry) (end : Next Course Ending) (act : Act) → Plays plan entries end → Wants plan entries act → ⊥

-- a run has at most one end over a list of entries
abbrev pub OneEnd : Type 0
OneEnd = (c : Course) (entries : List Entry) (first second : Ending) → Means advance c entries first → Means advance c entries second → first ≡ second

-- this lock, where one is wanted, was got
abbrev pub IsGot : Option (List ℕ) → List Entry → Type 0
IsGot None entries = entries ≡ []
IsGot (Some name) [] = ⊥
IsGot (Some name) (e ∷ es) = (rule : LockRule) × (sleeps : ℕ) × (forced : ℕ) × (e.act ≡ lock_act name rule) × (e.reply ≡ Held sleeps forced) × (es ≡ [])

-- its removal was asked for once
abbrev pub IsGiven : Option (List ℕ) → List Entry → Type 0
IsGiven None entries = entries ≡ []
IsGiven (Some name) [] = ⊥
IsGiven (Some name) (e ∷ es) = (e.act ≡ Unlock name) × (es ≡ [])

-- a line is logged, on `err` or in a file
abbrev pub IsLine : Act → Type 0
IsLine (SayErr line) = Unit {0}
IsLine (SayFile name line) = Unit {0}
IsLine other = ⊥

-- nothing but lines
abbrev pub AreLines : List Entry → Type 0
AreLines [] = Unit {0}
AreLines (e ∷ es) = IsLine e.act × AreLines es

-- Each of these destinations got the mail, in order; a lock, if any was wanted, was got before and its removal asked for once after;
-- and lines were told then.
pub record IsFiled (flags : Flags) (destinations : List Destination) (p : Mind) (entries : List Entry) : Type 0 where
  pub lock : Option (List ℕ)
  pub got : List Entry
  pub deliveries : List Entry
  pub given : List Entry
  pub lines : List Entry
  pub whole : entries ≡ got ++ (deliveries ++ (given ++ lines))
  pub is_got : IsGot lock got
  pub done : AllHave p.base (mailbox_piece flags p) (folder_piece flags p) destinations deliveries
  pub is_given : IsGiven lock given
  pub are_lines : AreLines lines

-- The recipe is admitted, over the first of these entries its conditions hold, and over the others the commands of its lock file's
-- text are run, and then those of its action, which may depend on the process.
pub record IsReady (top : Top) (lock_commands : List (List ℕ)) (commands : Mind → List (List ℕ)) (p : Mind) (entries : List Entry) (ready : Ready) : Type 0 where
  pub admitted : is_admitted top.flags p.chain ≡ true
  pub judged : List Entry
  pub ran : List Entry
  pub whole : entries ≡ judged ++ ran
  pub mind : Mind
  pub holds : Plays (judge top.conditions top.flags p) judged (judged_with Matched mind)
  pub runs : Plays (make_ready lock_commands (commands (executed top.flags mind)) (executed top.flags mind)) ran ready

-- such a recipe's program is read so
pub record IsRead (top : Top) (task : Task) (reading : Mind → Reading) (p : Mind) (entries : List Entry) (ready : Ready) (line : ProgramLine) : Type 0 where
  pub is_ready : IsReady top (lock_commands task) (λ q. (reading q).commands) p entries ready
  pub read : (reading (executed top.flags is_ready.mind)).read ready.outputs ready.mind ≡ line

-- where a process stands so, it delivers after these entries by these flags to these destinations: a recipe whose conditions hold to those
-- of its text, with the outputs of its commands, and one that falls off to a default mailbox
abbrev pub DeliversAt : State → List Entry → Flags → List (List ℕ) → Mind → Type 0
DeliversAt (Running (Do (Recipe top (Mailbox text)) ∷ rest) p) asked flags words mind =
    (ready : Ready) × IsReady top (commands_in One (text_or [] top.lock)) (λ q. commands_in Many text) p asked ready × (flags ≡ top.flags)
    × (words ≡ words_in Many ready.mind.vars ready.outputs text) × (mind ≡ ready.mind)
DeliversAt (FallingOff (mailbox ∷ rest) p) asked flags words mind = (asked ≡ []) × (flags ≡ no_flags) × (words ≡ mailbox ∷ []) × (mind ≡ p)
DeliversAt other asked flags words mind = ⊥

-- where a process stands so, a recipe hands the mail after these entries to the program of its action, a pipe without the flag f or a
-- forward
abbrev pub PipesAt : State → List Entry → Flags → Command → Mind → Type 0
PipesAt (Running (Do (Recipe top (Pipe line)) ∷ rest) p) asked flags command mind =
    (ready : Ready) × IsRead top (pipe_task top.flags top.lock line) (line_reading line) p asked ready (Runs command) × (top.flags.filter ≡ false)
    × (flags ≡ top.flags) × (mind ≡ ready.mind)
PipesAt (Running (Do (Recipe top (Forward text)) ∷ rest) p) asked flags command mind =
    (ready : Ready) × IsRead top (forward_task top.flags top.lock text) (λ q. forward_reading text) p asked ready (Runs command)
    × (flags ≡ top.flags) × (mind ≡ ready.mind)
PipesAt other asked flags command mind = ⊥

-- where a process stands so, a recipe writes the mail after these entries to standard output
abbrev pub WritesAt : State → List Entry → Flags → Mind → Type 0
WritesAt (Running (Do (Recipe top WriteOutAction) ∷ rest) p) asked flags mind =
    (ready : Ready) × IsReady top (lock_commands (write_task top.flags top.lock)) (λ q. []) p asked ready × (flags ≡ top.flags) × (mind ≡ ready.mind)
WritesAt other asked flags mind = ⊥

-- it removes a lock file, logs a line, or runs a program
abbrev pub IsClosing : Act → Type 0
IsClosing (Unlock name) = Unit {0}
IsClosing (SayErr line) = Unit {0}
IsClosing (SayFile name line) = Unit {0}
IsClosing (Run command input want) = Unit {0}
IsClosing other = ⊥

-- nothing but such acts
abbrev pub AreClosing : List Entry → Type 0
AreClosing [] = Unit {0}
AreClosing (e ∷ es) = IsClosing e.act × AreClosing es

-- One act alone that passes: a lock, if any was wanted, was got before and its removal asked for once after, and lines were told
-- before and then.
pub record IsOneAct (Passes : Entry → Type 0) (entries : List Entry) : Type 0 where
  pub lock : Option (List ℕ)
  pub told : List Entry
  pub got : List Entry
  pub act : Entry
  pub given : List Entry
  pub lines : List Entry
  pub whole : entries ≡ told ++ (got ++ (act ∷ (given ++ lines)))
  pub are_told : AreLines told
  pub is_got : IsGot lock got
  pub passes : Passes act
  pub is_given : IsGiven lock given
  pub are_lines : AreLines lines

-- the program was run with this input, and by these flags it didn't fail
pub record IsFed (flags : Flags) (command : Command) (input : List ℕ) (e : Entry) : Type 0 where
  pub act_is : e.act ≡ Run command input false
  pub done : feed_outcome flags (length input) (run_end e.reply) ≡ Done

-- the piece was written to standard output whole
pub record IsWritten (piece : List ℕ) (e : Entry) : Type 0 where
  pub act_is : e.act ≡ WriteOut piece
  pub done : e.reply ≡ Wrote

-- how the mail is delivered for good: to mailboxes, to the program of the line, or to standard output
pub data IsMade (at : State) (asked : List Entry) (flags : Flags) (mind : Mind) (entries : List Entry) : Type 0 where
  in_files : (words : List (List ℕ)) → DeliversAt at asked flags words mind → are_file_texts words ≡ true → IsFiled flags (map destination_of words) mind entries → IsMade at asked flags mind entries
  by_program : (command : Command) → PipesAt at asked flags command mind → IsOneAct (IsFed flags command (fed_piece flags mind)) entries → IsMade at asked flags mind entries
  by_output : WritesAt at asked flags mind → IsOneAct (IsWritten (fed_piece flags mind)) entries → IsMade at asked flags mind entries

-- after these entries the run is over, or only copies of its first process, which ended so, go on over the others
pub data Finishes (c : Course) (entries later : List Entry) (ending : Ending) : Type 0 where
  ends_there : later ≡ [] → Means advance c entries ending → Finishes c entries later ending
  by_copies : (d : Course) → d.others.first ≡ Some ending → ArrivesAt {X = Ending} advance c entries d → Means advance d later ending → Finishes c entries later ending

-- Over the entries before, the first process comes to where it delivers for good; over the next it becomes ready to; the next deliver
-- the mail there, and after them it gives locks back, logs lines and runs the program of TRAP, and then only copies of it go on.
pub record DeliversLast (c : Course) (entries : List Entry) (ending : Ending) : Type 0 where
  pub before : List Entry
  pub asked : List Entry
  pub last : List Entry
  pub behind : List Entry
  pub later : List Entry
  pub whole : entries ≡ (before ++ (asked ++ last) ++ behind) ++ later
  pub closing : AreClosing behind
  pub at : Course
  pub is_first : at.others.first ≡ None
  pub flags : Flags
  pub mind : Mind
  pub comes : ArrivesAt {X = Ending} advance c before at
  pub final : flags.copy ≡ false
  pub made : IsMade at.at asked flags mind last
  pub finishes : Finishes c (before ++ (asked ++ last) ++ behind) later ending

-- the first process ends as delivered only where its last acts deliver the mail so
abbrev pub DeliveredIsDone : Type 0
DeliveredIsDone =
    (line : CommandLine) (env : Environ) (bytes : List ℕ) (entries : List Entry) (ending : Ending) → Means advance (run_of line env bytes) entries ending
    → ending.end ≡ Delivered → DeliversLast (run_of line env bytes) entries ending
