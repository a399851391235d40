-- Short runs, and which of their programs are started.
use Rattle.std.specs.Prelude.{◌≡◌, ℕ, Bool, true, false, pos, List, [], ◌∷◌, Some, None, codes}
use Rattle.pm_conds.specs.declared.observer.Note.{Note}
use Rattle.pm_conds.specs.declared.observer.Note.TheVariants.{CameTo, Judged}
use Rattle.pm_host.specs.declared.command.Command.{Command}
use Rattle.pm_journal.specs.declared.acts.Act.{Act}
use Rattle.pm_journal.specs.declared.acts.Act.TheVariants.{ReadFile, Run}
use Rattle.pm_journal.specs.declared.acts.Entry.{Entry}
use Rattle.pm_journal.specs.declared.acts.Reply.{Reply}
use Rattle.pm_journal.specs.declared.acts.Reply.TheVariants.{Content, Ended, NotStarted, Broken}
use Rattle.pm_meaning.specs.declared.question.Outcome.TheVariants.{Holds, Fails, Exited}
use Rattle.explain_run.specs.Captures.{captures_at}
use Rattle.explain_run.specs.Programs.{program_at}
use Rattle.explain_run.specs.Scripts.{part_at, started_after}
use Rattle.explain_run.specs.Starting.{starts_of, next_start}
use Rattle.explain_run.specs.declared.captures.Captures.TheVariants.{Nothing, Output, AfterCommands}
use Rattle.explain_run.specs.declared.script.Part.TheVariants as part

-- an act with its reply
abbrev pub entry : Act → Reply → Entry
entry act reply = record { act = act; reply = reply; before = record { host = 0; out = 0; err = 0 }; after = record { host = 0; out = 0; err = 0 } }

-- the command of a shell
abbrev pub command : List ℕ → Command
command line = record { program = codes "/bin/sh"; args = codes "-c" ∷ line ∷ []; env = []; folder = codes "." }

-- a program that ended with 0
abbrev pub ran : List ℕ → Bool → Entry
ran line want = entry (Run (command line) (codes "mail") want) (Ended 0 4 [])

-- an rcfile was read
abbrev pub read : List ℕ → Entry
read text = entry (ReadFile (codes "rc")) (Content text)

-- the run came to the recipe at a place of it, after so many entries
abbrev pub came : ℕ → ℕ → Note
came place entries = CameTo (codes "rc") place true entries

-- a condition held after so many entries
abbrev pub held : ℕ → Note
held entries = Judged Holds (pos 0) entries

-- no lines have answers
abbrev pub starts : List Entry → List Note → List Bool
starts entries notes = starts_of [] entries notes

-- a condition, a filter, and a delivery
abbrev pub three : List Entry
three = read (codes ":0\n* ? a\nbox\n:0 f\n| b\n:0\n| c\n") ∷ ran (codes "a") false ∷ ran (codes "b") true ∷ ran (codes "c") false ∷ []

-- their recipes, and the condition
abbrev pub notes_of_three : List Note
notes_of_three = came 0 1 ∷ Judged Fails (pos 0) 2 ∷ came 1 2 ∷ came 2 3 ∷ []

-- a variable gets the output of `b`, and another one that of a command in backquotes
abbrev pub capturing : List ℕ → List Entry
capturing rc = read rc ∷ ran (codes "b") true ∷ ran (codes "d") true ∷ []

-- Programs of conditions, filters and commands in backquotes are started, and no others.
pub record OfStarts : Type 0 where
  pub each : starts three notes_of_three ≡ true ∷ true ∷ false ∷ []
  -- a program that no condition follows is a delivery, or TRAP's
  pub last : starts (ran (codes "a") false ∷ []) [] ≡ false ∷ []
  pub unjudged : starts (ran (codes "a") false ∷ []) (came 0 0 ∷ []) ≡ false ∷ []
  pub other_recipe : starts (ran (codes "a") false ∷ ran (codes "b") false ∷ []) (came 0 0 ∷ came 1 1 ∷ held 2 ∷ []) ≡ false ∷ true ∷ []
  pub second : starts (ran (codes "a") false ∷ ran (codes "b") false ∷ ran (codes "c") false ∷ []) (came 0 0 ∷ held 1 ∷ held 2 ∷ []) ≡ true ∷ true ∷ false ∷ []
  pub backquotes : starts (ran (codes "a") true ∷ []) [] ≡ true ∷ []
  -- those that have answers aren't started
  pub given : starts_of (codes "b" ∷ []) three notes_of_three ≡ true ∷ false ∷ false ∷ []
  pub own_code : starts (entry (Run (record { program = codes "/usr/bin/formail"; args = []; env = []; folder = codes "." }) [] true) NotStarted ∷ []) [] ≡ false ∷ []
  -- the program of `VAR=| program` isn't started, and the command after it is
  pub captured : starts (capturing (codes ":0\nX=| b\nY=`d`\n")) (came 0 1 ∷ []) ≡ false ∷ true ∷ []
  pub captured_after_condition : starts (capturing (codes ":0\n* a\nX=| b\nY=`d`\n")) (came 0 1 ∷ held 1 ∷ []) ≡ false ∷ true ∷ []
  pub not_captured : starts (capturing (codes ":0\n* a\nX=| c\nY=`b`\nZ=`d`\n")) (came 0 1 ∷ Judged Fails (pos 0) 1 ∷ []) ≡ true ∷ true ∷ []
  pub not_tried : starts (capturing (codes ":0 E\nX=| c\nY=`b`\nZ=`d`\n")) (CameTo (codes "rc") 0 false 1 ∷ []) ≡ true ∷ true ∷ []
  pub no_score : starts (capturing (codes ":0\n* 1^1 a\nX=| c\nY=`b`\nZ=`d`\n")) (came 0 1 ∷ Judged (Exited (record { w = pos 1; x = 1 }) false 0) (pos 0) 1 ∷ []) ≡ true ∷ true ∷ []
  pub after_commands : starts (capturing (codes ":0\nX=| d `b`\n")) (came 0 1 ∷ []) ≡ false ∷ false ∷ []
  pub unknown : starts (ran (codes "b") true ∷ []) (came 0 0 ∷ []) ≡ false ∷ []

-- What a recipe does with the output of its program.
pub record OfCaptures : Type 0 where
  pub output : captures_at (codes ":0:\n* a\nX=| b\n") 0 ≡ Output
  pub line : captures_at (codes ":0\nX=| b `c`\n") 0 ≡ AfterCommands
  pub lock : captures_at (codes ":0: `c`\nX=| b\n") 0 ≡ AfterCommands
  pub filter : captures_at (codes ":0 f\n| b\n") 0 ≡ Nothing
  pub inner : captures_at (codes ":0\n{\n:0\nX=| b\n}\n") 1 ≡ Output
  pub no_step : captures_at (codes ":0\nX=| b\n") 1 ≡ Nothing

-- Who answers the programs of the next run.
pub record OfScripts : Type 0 where
  pub first : next_start [] three notes_of_three None ≡ Some 0
  pub second : next_start [] three notes_of_three (Some 0) ≡ Some 1
  pub no_more : next_start [] three notes_of_three (Some 1) ≡ None
  pub lost : next_start [] (entry (Run (command (codes "a")) [] true) (Broken 0) ∷ ran (codes "b") true ∷ []) [] (Some 0) ≡ None
  pub at_place : program_at three 1 ≡ Some (ran (codes "b") true)
  pub starts : part_at three (0 ∷ []) (Some 1) 1 (command (codes "b")) true ≡ part.Real
  pub again : part_at three (0 ∷ []) (Some 1) 0 (command (codes "a")) false ≡ part.Again
  pub below : part_at three (0 ∷ []) (Some 1) 2 (command (codes "c")) false ≡ part.Below
  pub other_program : part_at three (0 ∷ []) (Some 1) 1 (command (codes "c")) true ≡ part.Below
  pub other_place : part_at three (0 ∷ []) (Some 1) 0 (command (codes "b")) true ≡ part.Below
  pub other_purpose : part_at three (0 ∷ []) (Some 1) 1 (command (codes "b")) false ≡ part.Below
  pub both : started_after three three (0 ∷ []) 1 ≡ 0 ∷ 1 ∷ []
  pub gone : started_after three (ran (codes "a") false ∷ []) (0 ∷ []) 1 ≡ 0 ∷ []
