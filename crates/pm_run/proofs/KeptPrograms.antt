-- An action that runs a program, or writes to standard output, ends with the locks with which it began.
use Rattle.std.proofs.Common.{ℕ, List, [], ◌++◌, ◌&&◌, length, Option, Some, None}
use Rattle.std.specs.Prelude.{not}
use Rattle.pm_host.specs.declared.command.Command.{Command}
use Rattle.pm_recipe.specs.Tree.{Top, Act, Mailbox, Pipe, Capture, Forward, WriteOut, Block}
use Rattle.pm_recipe.specs.declared.tree.Flags.{Flags}
use Rattle.pm_subst.specs.Words.{words_in}
use Rattle.pm_journal.specs.Held.{without}
use Rattle.pm_journal.specs.LogText.{no_lock_line}
use Rattle.pm_journal.specs.Outcomes.{run_end, output_in}
use Rattle.pm_journal.specs.Plan.{Plan, and_then}
use Rattle.pm_journal.specs.declared.acts.Reply.{Reply}
use Rattle.pm_journal.specs.declared.acts.Reply.TheVariants.{Held}
use Rattle.pm_meaning.specs.Abstracts.{copy_lines}
use Rattle.pm_meaning.specs.Acting.{act_on}
use Rattle.pm_meaning.specs.Assigning.{first_word}
use Rattle.pm_meaning.specs.Delivering.{Ready, make_ready}
use Rattle.pm_meaning.specs.Forwards.{forward_reading}
use Rattle.pm_meaning.specs.Locks.{is_lock_word, full_lock, is_taken, blamed_text, with_lock, text_or}
use Rattle.pm_meaning.specs.Logging.{log}
use Rattle.pm_meaning.specs.Minds.{Mind}
use Rattle.pm_meaning.specs.ProgramActions.{Purpose, Delivers, Filters, Captures, Task, Tried, Trying, is_fine, feed_outcome, end_outcome, unless_overflow, captured_in, work_of, write_outcome, write, unlock_after, try_locked, try_under, trial_lines, is_fine_trial, settled_by, trial_acted, is_delivery, after_trial, try_and_say, lacks_lock, named_lock, told_first, do_under, do_named, unusable_text, do_line, lock_mode, lock_source, lock_commands, lock_first, fed_piece, program_with, do_program, pipe_task, capture_task, forward_task, write_task, write_with, write_out}
use Rattle.pm_meaning.specs.Programs.{Reading, line_reading, with_exit_code, code_of}
use Rattle.pm_meaning.specs.Turns.{ActEnd, refuse_act, skip_act, is_too_long}
use Rattle.pm_meaning.specs.declared.acted.Cause.TheVariants as cause
use Rattle.pm_meaning.specs.declared.process.Outcome.{Outcome}
use Rattle.pm_meaning.specs.declared.process.Outcome.TheVariants.{Done, Overflow}
use Rattle.pm_meaning.specs.declared.process.ProgramLine.{ProgramLine}
use Rattle.pm_meaning.specs.declared.process.ProgramLine.TheVariants.{Runs, NoWords, Unusable, TooLong as LineTooLong}
use Rattle.pm_run.proofs.Always.{Always, always_then, always_if, always_after, always_each}
use Rattle.pm_run.proofs.Kept.{Kept, kept_if, AfterAct, AfterTrial, AfterTry, OnceReady}
use Rattle.pm_run.proofs.KeptDeliveries.{given_back, kept_refused, kept_overflow, kept_skipped, kept_ready, kept_deliver}

-- what is tried changes nothing about locks
abbrev Keeps : (Mind → Plan Tried) → Type 1
Keeps work = (K : List (List ℕ) → Option (List ℕ) → Type 0) (p : Mind) → Kept K p → Always (AfterTry K) (work p)

kept_captured : (K : List (List ℕ) → Option (List ℕ) → Type 0) (name output : List ℕ) (outcome : Outcome) (p : Mind) → Kept K p → Kept K (captured_in name output outcome p)
kept_captured K name output Done p h = h
kept_captured K name output (Overflow size) p h = h
kept_captured K name output other p h = h

keeps_work : (purpose : Purpose) (flags : Flags) (input : List ℕ) (command : Command) → Keeps (work_of purpose flags input command)
keeps_work (Delivers destination) flags input command K p h = λ reply. kept_if K (is_fine (feed_outcome flags (length input) (run_end reply))) _ _ h h
keeps_work Filters flags input command K p h = λ reply. kept_if K _ _ _ h h
keeps_work (Captures name) flags input command K p h = λ reply.
    let output = text_or [] (output_in reply) in
    kept_captured K name output (unless_overflow (end_outcome flags (run_end reply)) (length output)) (with_exit_code (code_of (run_end reply)) p) h

keeps_write : (piece : List ℕ) → Keeps (write piece)
keeps_write piece K p h = λ reply. kept_if K (is_fine (write_outcome reply)) _ _ h h

module _ (K : List (List ℕ) → Option (List ℕ) → Type 0) where
  kept_locked : (name : List ℕ) (work : Mind → Plan Tried) (p : Mind) (reply : Reply) → Keeps work → Kept K p → Always (AfterTrial K) (try_locked name work p reply)
  kept_locked name work p (Held sleeps forced) keeps h =
      always_then (AfterTry (λ locks global. K (without locks name) global)) (AfterTrial K) (work (with_lock name p)) (unlock_after name forced)
      (keeps (λ locks global. K (without locks name) global) (with_lock name p) (given_back K name p h)) (λ t k. λ reply. k)
  kept_locked name work p other keeps h = h

  kept_tried : (lock : Option (List ℕ)) (work : Mind → Plan Tried) (p : Mind) → Keeps work → Kept K p → Always (AfterTrial K) (try_under lock work p)
  kept_tried None work p keeps h = always_then (AfterTry K) (AfterTrial K) (work p) _ (keeps K p h) (λ t k. k)
  kept_tried (Some name) work p keeps h = λ reply. kept_locked name work p reply keeps h

  kept_after : (t : Task) (done : Trying) → Kept K done.mind → Always (AfterAct K) (after_trial t done)
  kept_after t done h =
      let q = settled_by done.trial done.mind in
      always_each (AfterAct K) q (trial_lines t.flags t.text done.trial ++ copy_lines (is_delivery t.purpose && is_fine_trial done.trial) t.flags q)
      (record { acted = trial_acted t.purpose t.flags done.trial; mind = q }) (kept_if K (is_fine_trial done.trial) _ _ h h)

  kept_said : (t : Task) (lock : Option (List ℕ)) (work : Mind → Plan Tried) (p : Mind) → Keeps work → Kept K p → Always (AfterAct K) (try_and_say t lock work p)
  kept_said t lock work p keeps h =
      always_then (AfterTrial K) (AfterAct K) (try_under lock work p) (after_trial t) (kept_tried lock work p keeps h) (λ done k. kept_after t done k)

  kept_first : (t : Task) (p : Mind) (next : Plan ActEnd) → Always (AfterAct K) next → Always (AfterAct K) (told_first t p next)
  kept_first t p next h =
      always_if (AfterAct K) (lacks_lock t) (and_then (log (no_lock_line t.text) p) (λ done. next)) next
      (always_after (AfterAct K) (log (no_lock_line t.text) p) (λ done. next) (λ done. h)) h

  kept_under : (t : Task) (lock : Option (List ℕ)) (work : Mind → Plan Tried) (p : Mind) → Keeps work → Kept K p → Always (AfterAct K) (do_under t lock work p)
  kept_under t lock work p keeps h =
      always_if (AfterAct K) (is_taken lock [] p.locks) (refuse_act cause.NameIsLock (blamed_text t.lock t.text) p) _
      (kept_refused K cause.NameIsLock (blamed_text t.lock t.text) p h) (kept_first t p (try_and_say t lock work p) (kept_said t lock work p keeps h))

  kept_named : (t : Task) (word : Option (List ℕ)) (work : Mind → Plan Tried) (p : Mind) → Keeps work → Kept K p → Always (AfterAct K) (do_named t word work p)
  kept_named t word work p keeps h =
      always_if (AfterAct K) (not (is_lock_word word)) (refuse_act cause.BadName (blamed_text t.lock t.text) p) _
      (kept_refused K cause.BadName (blamed_text t.lock t.text) p h) (kept_under t (full_lock p.base word) work p keeps h)

  kept_line : (t : Task) (word : Option (List ℕ)) (work : Command → Mind → Plan Tried) (l : ProgramLine) (p : Mind) → ((command : Command) → Keeps (work command)) → Kept K p
      → Always (AfterAct K) (do_line t word work l p)
  kept_line t word work (Runs command) p keeps h = kept_named t word (work command) p (keeps command) h
  kept_line t word work NoWords p keeps h = kept_refused K cause.NoWords t.text p h
  kept_line t word work Unusable p keeps h = kept_refused K cause.BadName (unusable_text t word) p h
  kept_line t word work (LineTooLong count) p keeps h = kept_overflow K count p h

  kept_lock : (t : Task) (outputs : List (List ℕ)) (next : Option (List ℕ) → Plan ActEnd) (p : Mind) → ((word : Option (List ℕ)) → Always (AfterAct K) (next word)) → Kept K p
      → Always (AfterAct K) (lock_first t outputs next p)
  kept_lock t outputs next p k h =
      always_if (AfterAct K) (is_too_long (lock_mode t) (lock_source t) p.vars outputs) (skip_act (lock_mode t) (lock_source t) outputs p) _
      (kept_skipped K (lock_mode t) (lock_source t) outputs p h) (k (named_lock t (first_word (words_in (lock_mode t) p.vars outputs (lock_source t))) p))

  kept_with : (t : Task) (reading : Reading) (ready : Ready) → Kept K ready.mind → Always (AfterAct K) (program_with t reading ready)
  kept_with t reading ready h =
      let p = ready.mind in
      kept_lock t ready.lock_outputs (λ word. do_line t word (work_of t.purpose t.flags (fed_piece t.flags p)) (reading.read ready.outputs p) p) p
      (λ word. kept_line t word (work_of t.purpose t.flags (fed_piece t.flags p)) (reading.read ready.outputs p) p (λ command. keeps_work t.purpose t.flags (fed_piece t.flags p) command) h) h

  kept_program : (t : Task) (reading : Reading) (p : Mind) → Kept K p → Always (AfterAct K) (do_program t reading p)
  kept_program t reading p h =
      always_then (OnceReady K) (AfterAct K) (make_ready (lock_commands t) reading.commands p) _ (kept_ready K (lock_commands t) reading.commands p h)
      (λ ready k. kept_with t reading ready k)

  kept_write_with : (t : Task) (ready : Ready) → Kept K ready.mind → Always (AfterAct K) (write_with t ready)
  kept_write_with t ready h =
      kept_lock t ready.lock_outputs (λ word. do_named t word (write (fed_piece t.flags ready.mind)) ready.mind) ready.mind
      (λ word. kept_named t word (write (fed_piece t.flags ready.mind)) ready.mind (keeps_write (fed_piece t.flags ready.mind)) h) h

  kept_write : (flags : Flags) (lock : Option (List ℕ)) (p : Mind) → Kept K p → Always (AfterAct K) (write_out flags lock p)
  kept_write flags lock p h =
      let t = write_task flags lock in
      always_then (OnceReady K) (AfterAct K) (make_ready (lock_commands t) [] p) _ (kept_ready K (lock_commands t) [] p h) (λ ready k. kept_write_with t ready k)

  -- the action of a recipe that has no block
  pub kept_act : (top : Top) (act : Act) (p : Mind) → Kept K p → Always (AfterAct K) (act_on top act p)
  kept_act top (Mailbox text) p h = kept_deliver K top.flags top.lock text p h
  kept_act top (Pipe line) p h = kept_program (pipe_task top.flags top.lock line) (line_reading line p) p h
  kept_act top (Capture name line) p h = kept_program (capture_task top.flags top.lock name line) (line_reading line p) p h
  kept_act top (Forward text) p h = kept_program (forward_task top.flags top.lock text) (forward_reading text) p h
  kept_act top WriteOut p h = kept_write top.flags top.lock p h
  kept_act top (Block trees) p h = h
