-- Actions that hand the mail on, in plans: what each of them asks for, and all their commands first.
use Rattle.std.proofs.Common.{◌≡◌, List, ℕ, [], ◌++◌, Option, ap, ◌∙◌}
use Rattle.std.specs.Prelude.{codes}
use Rattle.pm_recipe.specs.declared.tree.Flags.{Flags}
use Rattle.pm_journal.specs.Plan.{Plan, and_then}
use Rattle.pm_meaning.specs.Delivering.{Ready, make_ready}
use Rattle.pm_meaning.specs.Forwards.{forward_reading}
use Rattle.pm_meaning.specs.Minds.{Mind}
use Rattle.pm_meaning.specs.ProgramActions.{Purpose, Delivers, Captures, Task, appended_name, lock_commands, program_with, do_program, pipe_purpose, pipe, capture_line, forward, write_task, write_with, write_out}
use Rattle.pm_meaning.specs.Programs.{Reading, line_reading}
use Rattle.pm_meaning.specs.Turns.{ActEnd}

-- all commands of the texts come first
abbrev pub with_task : Task → Reading → Ready → Plan ActEnd
with_task t reading = λ ready. program_with t reading ready

pub task_first : (t : Task) (reading : Reading) (firsts commands : List (List ℕ)) (p : Mind) → firsts ≡ lock_commands t → commands ≡ reading.commands
    → and_then (make_ready firsts commands p) (with_task t reading) ≡ do_program t reading p
task_first t reading firsts commands p e is =
    ap (λ l. and_then (make_ready l commands p) (with_task t reading)) e ∙ ap (λ l. and_then (make_ready (lock_commands t) l p) (with_task t reading)) is

abbrev pub with_write : Task → Ready → Plan ActEnd
with_write t = λ ready. write_with t ready

pub write_first : (flags : Flags) (lock : Option (List ℕ)) (firsts commands : List (List ℕ)) (p : Mind) → firsts ≡ lock_commands (write_task flags lock) → commands ≡ []
    → and_then (make_ready firsts commands p) (with_write (write_task flags lock)) ≡ write_out flags lock p
write_first flags lock firsts commands p e is =
    let t = write_task flags lock in
    ap (λ l. and_then (make_ready l commands p) (with_write t)) e ∙ ap (λ l. and_then (make_ready (lock_commands t) l p) (with_write t)) is

-- a task by all that it asks for
abbrev pub task_with : Flags → Option (List ℕ) → List ℕ → List ℕ → Purpose → Task
task_with flags lock line automatic purpose = record { flags = flags; lock = lock; automatic = automatic; text = line; purpose = purpose }

module _ (flags : Flags) (lock : Option (List ℕ)) (line automatic : List ℕ) (purpose : Purpose) (reading : Reading) (p : Mind) where
  pub is_pipe : automatic ≡ appended_name line → purpose ≡ pipe_purpose flags line → reading ≡ line_reading line p → do_program (task_with flags lock line automatic purpose) reading p ≡ pipe flags lock line p
  is_pipe named for is =
      ap (λ a. do_program (task_with flags lock line a purpose) reading p) named
      ∙ (ap (λ u. do_program (task_with flags lock line (appended_name line) u) reading p) for
      ∙ ap (λ r. do_program (task_with flags lock line (appended_name line) (pipe_purpose flags line)) r p) is)

  pub is_capture : (name : List ℕ) → automatic ≡ appended_name line → purpose ≡ Captures name → reading ≡ line_reading line p → do_program (task_with flags lock line automatic purpose) reading p ≡ capture_line flags lock name line p
  is_capture name named for is =
      ap (λ a. do_program (task_with flags lock line a purpose) reading p) named
      ∙ (ap (λ u. do_program (task_with flags lock line (appended_name line) u) reading p) for
      ∙ ap (λ r. do_program (task_with flags lock line (appended_name line) (Captures name)) r p) is)

  pub is_forward : automatic ≡ [] → purpose ≡ Delivers (codes "!" ++ line) → reading ≡ forward_reading line → do_program (task_with flags lock line automatic purpose) reading p ≡ forward flags lock line p
  is_forward none for is =
      ap (λ a. do_program (task_with flags lock line a purpose) reading p) none
      ∙ (ap (λ u. do_program (task_with flags lock line [] u) reading p) for ∙ ap (λ r. do_program (task_with flags lock line [] (Delivers (codes "!" ++ line))) r p) is)
