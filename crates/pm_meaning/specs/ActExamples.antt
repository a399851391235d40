-- What comes of locks, deliveries and programs, answer by answer, and what is logged (procmail(1), procmailrc(5)).
use Rattle.std.specs.Prelude.{ℕ, ◌-◌, ◌^◌, List, [], ◌∷◌, ◌++◌, ◌≡◌, Some, None, true, false, codes, length, min, nat_lt, replicate, pos, if◌then◌else◌}
use Rattle.std.specs.List.{filter, range_with_len}
use Rattle.pm_journal.specs.LogText.{bytes_left_line, couldnt_lock_line, couldnt_read_line, couldnt_start_line, couldnt_unlock_line, couldnt_write_line, couldnt_write_out_line, defective_condition_line, forcing_lock_line, input_closed_line, lost_contact_line, no_delivery_line, no_free_name_line, no_lock_line, output_too_long_line, program_failure_line, unusable_name_line, value_too_long_line}
use Rattle.pm_journal.specs.Plan.{Ends, Plan, and_then, ask}
use Rattle.pm_journal.specs.Walking.{Go}
use Rattle.pm_journal.specs.declared.acts.Act.TheVariants.{Lock, SayErr, Unlock}
use Rattle.pm_journal.specs.declared.acts.Reply.TheVariants as reply
use Rattle.pm_journal.specs.declared.children.RunEnd.TheVariants as run
use Rattle.pm_recipe.specs.Tree.{nil}
use Rattle.pm_recipe.specs.declared.tree.Condition.{Condition}
use Rattle.pm_recipe.specs.declared.tree.Weight.TheVariants as weight
use Rattle.pm_subst.specs.Fields.{most_length}
use Rattle.pm_subst.specs.Words.{size_in, words_in}
use Rattle.pm_subst.specs.declared.kinds.Mode.{Mode}
use Rattle.pm_subst.specs.declared.kinds.Mode.TheVariants.{Many, One, Quoted}
use Rattle.pm_vars.specs.Table.{Table}
use Rattle.pm_meaning.specs.Abstracts.{abstract_of, copy_lines, folder_part, from_part, is_subject, subject_line, subject_part}
use Rattle.pm_meaning.specs.Blocks.{closed, enter_under, give_block_lock, got_block_lock, lock_block}
use Rattle.pm_meaning.specs.Chains.{executed, passed, succeeded, with_chain}
use Rattle.pm_meaning.specs.Changes.{overflowed, stored_in}
use Rattle.pm_meaning.specs.Courses.{Others, make_clone, now_at, with_copy}
use Rattle.pm_meaning.specs.ConditionExamples.{question}
use Rattle.pm_meaning.specs.Delivering.{appended_by, attempt_lines, attempt_acted, deliver_at, deliver_named, deliver_to, file_one, file_size, in_plain, is_done, next_stamp, not_got, placed_by, plain_prefix, try_each}
use Rattle.pm_meaning.specs.Destinations.{destination_of}
use Rattle.pm_meaning.specs.Ends.{tell_delivery, trap, trap_by, trapped_with}
use Rattle.pm_meaning.specs.Examples.{chain, letters, process, process_with, variable}
use Rattle.pm_meaning.specs.Forwards.{addressed, forward_line}
use Rattle.pm_meaning.specs.GlobalLock.{after_giving, got_lock, with_global}
use Rattle.pm_meaning.specs.Judging.{Come, after_conditions, by_line, come_with, held_with, holding, read_again, told_judgement}
use Rattle.pm_meaning.specs.Leads.{Asking, asking_of}
use Rattle.pm_meaning.specs.Locks.{with_lock}
use Rattle.pm_meaning.specs.Logging.{log_to, logged}
use Rattle.pm_meaning.specs.Minds.{Mind}
use Rattle.pm_meaning.specs.Outputs.{run_fault, taken_output}
use Rattle.pm_meaning.specs.ProgramActions.{appended_name, do_line, do_named, forward_task, lock_mode, outcome_acted, outcome_lines, pipe_task, trial_acted, trial_lines, work_of, write_outcome, write_task, Delivers}
use Rattle.pm_meaning.specs.Programs.{command_line_of, expanded_line, line_of_words, needs_shell, shell_words}
use Rattle.pm_meaning.specs.Running.{Opening, OpeningRule, Over, Refusing, Running, clone_of, falling_off, pass_over}
use Rattle.pm_meaning.specs.Turns.{ActEnd, Enters, GoesOn, Turn, is_too_long, overflow_act, refuse_act, refuse_name, say_then}
use Rattle.pm_meaning.specs.declared.acted.Acted.TheVariants as acted
use Rattle.pm_meaning.specs.declared.acted.Cause.TheVariants as cause
use Rattle.pm_meaning.specs.declared.process.Attempt.TheVariants as attempt
use Rattle.pm_meaning.specs.declared.process.End.TheVariants.{Delivered, FellOff, NoRc}
use Rattle.pm_meaning.specs.declared.process.Filed.TheVariants.{Stored, Unwritten, Raced, Left, Crowded, Unnamed}
use Rattle.pm_meaning.specs.declared.process.Outcome.TheVariants as outcome
use Rattle.pm_meaning.specs.declared.process.ProgramLine.TheVariants as line
use Rattle.pm_meaning.specs.declared.process.Trial.TheVariants as trial
use Rattle.pm_meaning.specs.declared.question.Judgement.TheVariants as verdict
use Rattle.pm_meaning.specs.declared.question.Outcome.TheVariants as test
use Rattle.pm_meaning.specs.declared.question.Question.{Question}
use Rattle.pm_meaning.specs.declared.question.Scope.TheVariants as scope

-- names of a lock file, of a mailbox, of a folder and of a file in it, and the text of an action
abbrev pub k : List ℕ
k = codes "k"

abbrev pub m : List ℕ
m = codes "m"

abbrev pub d : List ℕ
d = codes "d"

abbrev pub f : List ℕ
f = codes "d/f"

abbrev pub t : List ℕ
t = codes "t"

-- a process that logs abstracts of all deliveries
abbrev pub logging : Mind
logging = process_with (variable (codes "LOGFILE") (codes "l2") ∷ variable (codes "LOGABSTRACT") (codes "all") ∷ [])

-- no clone waits, and so many were made
abbrev pub after_clones : ℕ → Others
after_clones count = record { queue = []; made = count; first = None }

-- a mail filter
abbrev pub mail_filter : Mind
mail_filter = record process { filter = true }

-- a condition without a weight
abbrev pub condition : List ℕ → Condition
condition text = record { weight = weight.None; text = text }

-- an inverted question about the mail
abbrev pub inverted : Question
inverted = question true scope.Flags

-- a process that has the value of a variable to expand
abbrev pub with_v : Mind
with_v = process_with (variable (codes "V") (codes "x y") ∷ [])

-- how rcfiles of the command line are opened, and how the user's own is
abbrev pub by_words : OpeningRule
by_words = record { is_implied = false; keeps_folder = false }

abbrev pub by_none : OpeningRule
by_none = record { is_implied = true; keeps_folder = false }

-- the lock files of blocks, and that of LOCKFILE
pub record OfLocks : Type 0 where
  -- a block is entered under its lock, and passed by if that isn't got
  pub asked : lock_block (codes "$K") k process
      ≡ and_then (ask (Lock (codes "Mail/k") 8 1024 16 1000)) (got_block_lock (codes "Mail/k") process)
  pub got : got_block_lock k process (reply.Held 0 0) ≡ Ends (Enters (Some k) (with_lock k process))
  pub forced : got_block_lock k process (reply.Held 2 1)
      ≡ say_then (with_lock k process) (forcing_lock_line k) (Enters (Some k) (with_lock k process))
  pub busy : got_block_lock k process reply.Busy ≡ say_then process (couldnt_lock_line k) (GoesOn process)
  pub not_tried : got_block_lock k process reply.Faulted ≡ say_then process (couldnt_lock_line k) (GoesOn process)
  -- so it is if the lock is held already, or has no name; without a text the block is entered
  pub held_already : lock_block (codes "$L") (codes "l") process ≡ refuse_name (codes "$L") process
  pub no_name : lock_block (codes "$L") [] process ≡ refuse_name (codes "$L") process
  pub no_text : enter_under [] process ≡ say_then process (no_lock_line (codes "{")) (Enters None process)
  -- the lock is given back if it is held, and one that is left is told
  pub given : give_block_lock (codes "Mail/l") process
      ≡ and_then (ask (Unlock (codes "Mail/l"))) (after_giving (codes "Mail/l") (record process { locks = [] }))
  pub not_held : give_block_lock k process ≡ Ends process
  pub gone : after_giving k process reply.Gone ≡ Ends process
  pub is_left : after_giving k process reply.Faulted ≡ say_then process (couldnt_unlock_line k) process
  -- a block that was left has succeeded, and the chain before it comes back
  pub after_block : closed (chain true true false true) process ≡ with_chain (chain true true true false) process
  -- LOCKFILE's lock
  pub global : got_lock k process (reply.Held 3 0) ≡ Ends (GoesOn (with_global k process))
  pub global_forced : got_lock k process (reply.Held 3 1)
      ≡ say_then (with_global k process) (forcing_lock_line k) (GoesOn (with_global k process))
  pub global_busy : got_lock k process reply.Busy ≡ say_then process (couldnt_lock_line k) (GoesOn process)

-- deliveries to files and folders; the mail has 31 bytes
pub record OfDeliveries : Type 0 where
  -- a mailbox gets a piece that ends with an empty line, and `/dev/null` the mail as it is
  pub mailbox_size : file_size m (letters []) process ≡ 33
  pub null_size : file_size (codes "/dev/null") (letters []) process ≡ 31
  pub null : file_one (letters []) (destination_of (codes "/dev/null")) process
      ≡ Ends (record { filed = Stored; mind = stored_in (codes "/dev/null") 31 process })
  -- what comes of an append
  pub appended : appended_by (letters []) m (stored_in m 33 process) process reply.Done
      ≡ Ends (record { filed = Stored; mind = stored_in m 33 process })
  pub torn : appended_by (letters []) m (stored_in m 33 process) process (reply.Torn 3)
      ≡ Ends (record { filed = Left m 3; mind = process })
  pub undone : appended_by (letters []) m (stored_in m 33 process) process reply.Undone
      ≡ Ends (record { filed = Unwritten m; mind = process })
  pub raced : appended_by (letters []) m (stored_in m 33 process) process reply.Raced
      ≡ Ends (record { filed = Raced m; mind = process })
  pub is_folder : appended_by (letters []) m (stored_in m 33 process) process reply.IsFolder
      ≡ in_plain (letters []) m process
  -- and of a filing; the file with the mail is what is remembered
  pub placed : placed_by d 31 process (reply.Placed f) ≡ record { filed = Stored; mind = stored_in f 31 process }
  pub placed_torn : placed_by d 31 process (reply.TornAt f 3) ≡ record { filed = Left f 3; mind = process }
  pub no_free_name : placed_by d 31 process reply.NamesOut ≡ record { filed = Crowded d; mind = process }
  pub not_placed : placed_by d 31 process reply.Undone ≡ record { filed = Unwritten d; mind = process }
  pub prefix : plain_prefix process ≡ codes "msg."
  pub other_prefix : plain_prefix (process_with (variable (codes "MSGPREFIX") (codes "x") ∷ [])) ≡ codes "x"
  pub stamp : next_stamp (record process { placed = 2 }) (pos 5)
      ≡ record { moment = pos 5; pid = 4242; serial = 3; host_name = codes "mx" }
  -- what is told of them, in this order
  pub told : attempt_lines t (attempt.Locked k 1 (Left m 3) true)
      ≡ forcing_lock_line k ∷ bytes_left_line 3 m ∷ couldnt_unlock_line k ∷ []
  pub nothing_told : attempt_lines t (attempt.Locked k 0 Stored false) ≡ []
  pub not_locked_told : attempt_lines t (attempt.NotLocked k cause.Busy) ≡ couldnt_lock_line k ∷ []
  pub unwritten_told : attempt_lines t (attempt.Unlocked (Unwritten m)) ≡ couldnt_write_line m ∷ []
  pub raced_told : attempt_lines t (attempt.Unlocked (Raced m)) ≡ couldnt_write_line m ∷ []
  pub crowded_told : attempt_lines t (attempt.Unlocked (Crowded d)) ≡ no_free_name_line d ∷ []
  pub unnamed_told : attempt_lines t (attempt.Unlocked Unnamed) ≡ unusable_name_line t ∷ []
  -- the mail is delivered if each destination has it, though its lock file is left; else the cause is told of
  pub delivered : attempt_acted (letters []) (attempt.Unlocked Stored) ≡ acted.Delivered
  pub delivered_with_lock_left : attempt_acted (letters []) (attempt.Locked k 0 Stored true) ≡ acted.Delivered
  pub copy_done : attempt_acted (letters (codes "c")) (attempt.Locked k 0 Stored false) ≡ acted.CopyDone
  pub left_is_torn : attempt_acted (letters []) (attempt.Unlocked (Left m 3)) ≡ acted.Failed cause.Torn
  pub unwritten_is_undone : attempt_acted (letters []) (attempt.Locked k 0 (Unwritten m) false) ≡ acted.Failed cause.Undone
  pub raced_is_raced : attempt_acted (letters []) (attempt.Unlocked (Raced m)) ≡ acted.Failed cause.Raced
  pub crowded_is_names_out : attempt_acted (letters []) (attempt.Unlocked (Crowded d)) ≡ acted.Failed cause.NamesOut
  pub unnamed_is_bad : attempt_acted (letters []) (attempt.Unlocked Unnamed) ≡ acted.Failed cause.BadName
  pub busy : attempt_acted (letters []) (attempt.NotLocked k (not_got reply.Busy)) ≡ acted.Failed cause.Busy
  pub lock_failed : attempt_acted (letters []) (attempt.NotLocked k (not_got reply.Faulted)) ≡ acted.Failed cause.LockFailed
  pub is_fine : is_done (attempt.Locked k 1 Stored true) ≡ true
  pub is_not_fine : is_done (attempt.Locked k 0 (Unwritten m) false) ≡ false
  pub is_not_locked : is_done (attempt.NotLocked k cause.Busy) ≡ false
  -- a name that is the lock file's too is refused, by the text of the lock file or of the action
  pub lock_is_mailbox : deliver_at (letters []) (Some (codes "Mail/m")) (codes "$K") (codes "$M") (destination_of m
      ∷ []) process
      ≡ refuse_act cause.NameIsLock (codes "$K") process
  pub mailbox_is_lock : deliver_at (letters []) None (codes "$K") (codes "$M") (destination_of (codes "l") ∷ []) process
      ≡ refuse_act cause.NameIsLock (codes "$M") process
  pub no_mailbox : deliver_to (letters []) (Some []) [] (codes "$M") [] process ≡ refuse_act cause.NoWords (codes "$M") process
  pub bad_mailbox : deliver_named (letters []) None (codes "$K") (codes "$M") (m ∷ [] ∷ []) process
      ≡ refuse_act cause.BadName (codes "$M") process
  pub bad_lock : deliver_to (letters []) (Some (codes "$K")) [] (codes "$M") (m ∷ []) process
      ≡ refuse_act cause.BadName (codes "$K") process
  -- without a default mailbox there is no name; the last one that was tried says why none got the mail
  pub no_name : try_each [] (acted.Failed cause.NoName) process ≡ Ends (record { acted = acted.Failed cause.NoName; mind = process })

-- the conditions of a recipe, in a mail of 31 bytes
pub record OfConditions : Type 0 where
  -- all must hold, in order up to the first that doesn't; none hold always
  pub none : holding [] (letters []) process ≡ Ends (held_with true process)
  pub both : holding (condition (codes "> 30") ∷ condition (codes "< 32") ∷ []) (letters []) process
      ≡ Ends (held_with true process)
  pub one : holding (condition (codes "> 30") ∷ condition (codes "< 31") ∷ []) (letters []) process
      ≡ Ends (held_with false process)
  pub after_one : holding (condition (codes "< 31") ∷ condition (codes "> k") ∷ []) (letters []) process
      ≡ Ends (held_with false process)
  -- a defect is told, and doesn't hold, whatever is inverted
  pub defect : holding (condition (codes "! > k") ∷ []) (letters []) process
      ≡ say_then process (defective_condition_line (codes "! > k")) (held_with false process)
  pub too_long : told_judgement (verdict.TooLong 1048577) process
      ≡ say_then process (value_too_long_line 1048577) (held_with false (overflowed process))
  -- after a `$` a text is expanded as if inside double quotes and read again, with what stood before it, up to eight
  -- times
  pub expanded : (go_on : Asking → Mind → Plan Come) → read_again (codes " \t$V'z'") [] inverted with_v go_on
      ≡ go_on (asking_of (codes "x y'z'") inverted) with_v
  pub eight_times : holding (condition (codes "$ $ $ $ $ $ $ $ > 30") ∷ []) (letters []) process
      ≡ Ends (held_with true process)
  pub nine_times : holding (condition (codes "$ $ $ $ $ $ $ $ $ > 30") ∷ []) (letters []) process
      ≡ say_then process (defective_condition_line (codes "$ $ $ $ $ $ $ $ $ > 30")) (held_with false process)
  -- a line that can't be run makes a defect
  pub no_words : by_line line.NoWords t (letters []) inverted process ≡ Ends (come_with test.Defective process)
  pub unusable : by_line line.Unusable t (letters []) inverted process ≡ Ends (come_with test.Defective process)
  pub long_line : by_line (line.TooLong 1048577) t (letters []) inverted process
      ≡ Ends (come_with (test.TooLong 1048577) process)
  -- the action comes only where they hold
  pub acts : (go_on : Mind → Plan Turn) → after_conditions (letters []) go_on (held_with true process)
      ≡ go_on (executed (letters []) process)
  pub passes : (go_on : Mind → Plan Turn) → after_conditions (letters []) go_on (held_with false process)
      ≡ Ends (GoesOn (passed (letters []) process))

-- programs, and the writing to standard output
pub record OfTrials : Type 0 where
  -- what is told of a program
  pub code : outcome_lines (letters (codes "w")) t (outcome.Code 3) ≡ program_failure_line 3 t ∷ []
  pub not_started : outcome_lines (letters (codes "W")) t outcome.NotStarted ≡ couldnt_start_line t ∷ []
  pub lost : outcome_lines (letters (codes "W")) t outcome.Lost ≡ lost_contact_line t ∷ []
  pub closed_input : outcome_lines (letters (codes "W")) t outcome.Closed ≡ input_closed_line t ∷ []
  pub too_long : outcome_lines (letters (codes "W")) t outcome.TooLong ≡ output_too_long_line t ∷ []
  pub overflow : outcome_lines (letters []) t (outcome.Overflow 1048577) ≡ value_too_long_line 1048577 ∷ []
  pub unwritten : outcome_lines (letters []) t outcome.Unwritten ≡ couldnt_write_out_line ∷ []
  pub told : trial_lines (letters []) t (trial.Locked k 1 outcome.Lost true)
      ≡ forcing_lock_line k ∷ lost_contact_line t ∷ couldnt_unlock_line k ∷ []
  pub not_locked_told : trial_lines (letters []) t (trial.NotLocked k cause.LockFailed) ≡ couldnt_lock_line k ∷ []
  -- what came of them
  pub delivered : trial_acted (Delivers t) (letters []) (trial.Locked k 0 outcome.Done true) ≡ acted.Delivered
  pub copy_done : trial_acted (Delivers t) (letters (codes "c")) (trial.Unlocked outcome.Done) ≡ acted.CopyDone
  pub not_got_lock : trial_acted (Delivers t) (letters []) (trial.NotLocked k (not_got reply.Busy)) ≡ acted.Failed cause.Busy
  pub closed_failed : outcome_acted (Delivers t) (letters []) outcome.Closed ≡ acted.Failed cause.Closed
  pub not_started_failed : outcome_acted (Delivers t) (letters []) outcome.NotStarted ≡ acted.Failed cause.NotStarted
  pub lost_failed : outcome_acted (Delivers t) (letters []) outcome.Lost ≡ acted.Failed cause.Broken
  pub code_failed : outcome_acted (Delivers t) (letters []) (outcome.Code 3) ≡ acted.Failed (cause.Code 3)
  pub too_long_failed : outcome_acted (Delivers t) (letters []) outcome.TooLong ≡ acted.Failed cause.TooLong
  pub overflow_failed : outcome_acted (Delivers t) (letters []) (outcome.Overflow 1048577) ≡ acted.Failed (cause.Overflow 1048577)
  pub unwritten_failed : outcome_acted (Delivers t) (letters []) outcome.Unwritten ≡ acted.Failed cause.WriteFailed
  -- a line without words, with a word that is no name, and one that is too long
  pub no_words : do_line (pipe_task (letters []) None t) None (work_of (Delivers t) (letters []) []) line.NoWords process
      ≡ refuse_act cause.NoWords t process
  pub unusable : do_line (pipe_task (letters []) None t) None (work_of (Delivers t) (letters []) []) line.Unusable process
      ≡ refuse_act cause.BadName t process
  pub long_line : do_line (pipe_task (letters []) None t) None (work_of (Delivers t) (letters []) []) (line.TooLong 1048577) process
      ≡ overflow_act 1048577 process
  pub written : write_outcome reply.Wrote ≡ outcome.Done
  pub half_written : write_outcome (reply.Short 3) ≡ outcome.Unwritten
  -- what is remembered of where the mail went
  pub to_addresses : (forward_task (letters []) None (codes " a b")).purpose ≡ Delivers (codes "! a b")
  pub to_output : (write_task (letters []) None).purpose ≡ Delivers (codes "|")
  -- the name after `>>` ends at a blank, a newline or one of `;|&<>)`
  pub up_to_bar : appended_name (codes "a >>b|c") ≡ codes "b"
  pub up_to_and : appended_name (codes "a >>\tb&c") ≡ codes "b"
  pub up_to_less : appended_name (codes "a >>b<c") ≡ codes "b"
  pub up_to_newline : appended_name (codes "a >>b\nc") ≡ codes "b"
  pub up_to_parenthesis : appended_name (codes "(a >>b(c)") ≡ codes "b(c"
  pub quoted_name : lock_mode (pipe_task (letters []) (Some []) (codes "a >>b")) ≡ Quoted
  pub own_name : lock_mode (pipe_task (letters []) (Some k) (codes "a >>b")) ≡ One
  -- the bytes that ask for a shell at first; so does a backquote in a backquoted command
  pub shell_bytes : filter (λ byte. needs_shell (byte ∷ []) process) (range_with_len 0 256) ≡ codes "&*;<>?[|~"
  pub backquote : command_line_of (codes "a `b") process
      ≡ line_of_words (shell_words (codes "a `b") process.vars) process
  -- what is told of a program that a text, a condition or TRAP runs; its code isn't
  pub quiet_code : run_fault (run.Ended 3 0) t ≡ None
  pub fault_not_started : run_fault run.NotStarted t ≡ Some (couldnt_start_line t)
  pub fault_lost : run_fault run.Broken t ≡ Some (lost_contact_line t)
  pub fault_too_long : run_fault run.TooLong t ≡ Some (output_too_long_line t)
  -- an output of more than 1 MiB is none, and so long may an expansion be
  pub no_output : taken_output None ≡ []
  pub short_output : taken_output (Some t) ≡ t
  pub longest_output : (output : List ℕ) → length output ≡ 1048576 → taken_output (Some output) ≡ output
  pub longer_output : (output : List ℕ) → length output ≡ 1048577 → taken_output (Some output) ≡ []
  pub longest_text : (mode : Mode) (text : List ℕ) (vars : Table) (outputs : List (List ℕ))
      → is_too_long mode text vars outputs
      ≡ nat_lt most_length (size_in mode vars outputs text)
  pub longest_line : (outputs : List (List ℕ)) (text : List ℕ) (p : Mind) → expanded_line outputs text p
      ≡ (if nat_lt most_length (size_in Many p.vars outputs text)
      then line.TooLong (min (size_in Many p.vars outputs text) (2 ^ 64 - 1))
      else line_of_words (words_in Many p.vars outputs text) p)
  pub longest_forward : (outputs : List (List ℕ)) (text : List ℕ) (p : Mind) → forward_line outputs text p
      ≡ (if nat_lt most_length (size_in Many p.vars outputs text)
      then line.TooLong (min (size_in Many p.vars outputs text) (2 ^ 64 - 1))
      else addressed (words_in Many p.vars outputs text) p)
  -- TRAP's code is 127 if no program runs
  pub trap_without_words : trap_by line.NoWords t process
      ≡ say_then process (unusable_name_line t) (trapped_with 127 process)
  pub trap_unusable : trap_by line.Unusable t process
      ≡ say_then process (unusable_name_line t) (trapped_with 127 process)
  pub trap_too_long : trap_by (line.TooLong 1048577) t process
      ≡ say_then process (value_too_long_line 1048577) (trapped_with 127 (overflowed process))
  pub no_trap : trap Delivered process ≡ Ends (trapped_with 127 process)

-- what is logged, and what comes of rcfiles that aren't read
pub record OfTelling : Type 0 where
  -- the abstract has the first subject's first line, as far as 78 bytes, and no line From where the mail has none
  pub long_subject : subject_line (codes "Subject: " ++ replicate 90 120 ++ codes "\n")
      ≡ codes " Subject: " ++ replicate 78 120 ++ codes "\n"
  pub first_subject : subject_part (codes "To: a\n" ∷ codes "Subject: b\n c\n" ∷ codes "Subject: d\n" ∷ [])
      ≡ codes " Subject: b\n"
  pub no_subject : subject_part (codes "To: a\n" ∷ []) ≡ []
  pub capital_subject : is_subject (codes "SUBJECT:x\n") ≡ true
  pub longer_name : is_subject (codes "Subjects: x\n") ≡ false
  pub blank_in_name : is_subject (codes "Subject : x\n") ≡ false
  pub no_from_line : from_part (codes "From: a\n") ≡ []
  pub shown_folder : folder_part (record { folder = codes "a\tb"; size = 10 }) ≡ codes "  Folder: a b 10\n"
  pub of_copy : copy_lines true (letters (codes "c")) logging ≡ abstract_of logging ∷ []
  pub of_failed_copy : copy_lines false (letters (codes "c")) logging ≡ []
  pub of_no_copy : copy_lines true (letters []) logging ≡ []
  pub of_no_delivery : tell_delivery FellOff logging ≡ Ends logged
  -- lines go to standard error, and `/dev/null` takes them without an act
  pub to_err : log_to None t ≡ and_then (ask (SayErr t)) (λ reply. Ends logged)
  pub to_null : log_to (Some (codes "/dev/null")) t ≡ Ends logged
  -- an rcfile that isn't read ends a mail filter; else it is told, but for the user's own if there is none, and the next
  -- one comes
  pub filter_without : pass_over by_words k [] true mail_filter ≡ Ends (Go (Over NoRc mail_filter))
  pub own_missing : pass_over by_none k [] true process ≡ Ends (Go (Opening by_none [] process))
  pub own_unreadable : pass_over by_none k [] false process
      ≡ say_then process (couldnt_read_line k) (Go (Opening by_none [] process))
  pub named_missing : pass_over by_words k (m ∷ []) true process
      ≡ say_then process (couldnt_read_line k) (Go (Opening by_words (m ∷ []) process))
  -- without a delivery this is told
  pub fell_off : falling_off [] process ≡ say_then process no_delivery_line (Go (Over FellOff process))
  -- a run makes 16 clones
  pub clone_16 : make_clone nil [] process (after_clones 15)
      ≡ Go (now_at (with_copy (clone_of nil [] process) (after_clones 15)) (Running [] (succeeded process)))
  pub clone_17 : make_clone nil [] process (after_clones 16) ≡ Go (now_at (after_clones 16) (Refusing [] process))
