-- What a recipe does that hands the mail to a program or writes it to standard output.
use Rattle.std.specs.Prelude.{ℕ, Bool, true, false, not, ◌&&◌, ◌||◌, ◌==◌, nat_eq, nat_lt, List, [], ◌∷◌, ◌++◌, Option, Some, None, is_some, length, take, drop, codes, if◌then◌else◌}
use Rattle.std.specs.List.{list_any, starts_with, position_or_len}
use Rattle.pm_bytes.specs.Letter.{is_space_byte}
use Rattle.pm_meaning.specs.Leads.{after_blanks}
use Rattle.pm_host.specs.declared.command.Command.{Command}
use Rattle.pm_message.specs.Piece.{piece_of}
use Rattle.pm_message.specs.Split.{split_of}
use Rattle.pm_message.specs.declared.head.Message.{Message}
use Rattle.pm_message.specs.declared.pieces.Feed.{Feed}
use Rattle.pm_message.specs.declared.pieces.Feed.TheVariants.{Both, Head, Body}
use Rattle.pm_message.specs.declared.pieces.Kind.TheVariants.{Other}
use Rattle.pm_recipe.specs.declared.tree.Flags.{Flags}
use Rattle.pm_subst.specs.Commands.{commands_in}
use Rattle.pm_subst.specs.Values.{trimmed}
use Rattle.pm_subst.specs.Words.{words_in}
use Rattle.pm_subst.specs.declared.kinds.Mode.{Mode}
use Rattle.pm_subst.specs.declared.kinds.Mode.TheVariants.{One, Quoted}
use Rattle.pm_journal.specs.Held.{without}
use Rattle.pm_journal.specs.Locking.{lock_act}
use Rattle.pm_journal.specs.LogText.{couldnt_lock_line, forcing_lock_line, couldnt_unlock_line, no_lock_line, value_too_long_line}
use Rattle.pm_journal.specs.LogText.{program_failure_line, couldnt_start_line, lost_contact_line, input_closed_line, output_too_long_line, couldnt_write_out_line}
use Rattle.pm_journal.specs.Outcomes.{run_end, output_in}
use Rattle.pm_journal.specs.Plan.{Plan, Ends, and_then, ask}
use Rattle.pm_journal.specs.declared.acts.Act.TheVariants.{Run, Unlock, WriteOut}
use Rattle.pm_journal.specs.declared.acts.Reply.{Reply}
use Rattle.pm_journal.specs.declared.acts.Reply.TheVariants.{Held, Wrote}
use Rattle.pm_journal.specs.declared.children.RunEnd.{RunEnd}
use Rattle.pm_journal.specs.declared.children.RunEnd.TheVariants.{Ended, NotStarted as RunNotStarted, Broken as RunBroken, TooLong as RunTooLong}
use Rattle.pm_meaning.specs.Assigning.{first_word}
use Rattle.pm_meaning.specs.Chains.{succeeded}
use Rattle.pm_meaning.specs.Changes.{with_variable, with_message, stored_in, overflowed}
use Rattle.pm_meaning.specs.Delivering.{Ready, make_ready, feed_of, all_stored, not_got, line_if, say_each}
use Rattle.pm_meaning.specs.Locks.{is_fault, text_or, value_or, rule_of, blamed_text, is_lock_word, full_lock, is_taken, with_lock}
use Rattle.pm_meaning.specs.Minds.{Mind}
use Rattle.pm_meaning.specs.Programs.{Reading, line_reading, code_of, with_exit_code}
use Rattle.pm_meaning.specs.Forwards.{forward_reading}
use Rattle.pm_meaning.specs.Texts.{is_empty}
use Rattle.pm_meaning.specs.Abstracts.{copy_lines}
use Rattle.pm_meaning.specs.Logging.{log}
use Rattle.pm_meaning.specs.Turns.{ActEnd, overflow_act, refuse_act, is_too_long, skip_act}
use Rattle.pm_meaning.specs.declared.acted.Acted.{Acted}
use Rattle.pm_meaning.specs.declared.acted.Acted.TheVariants.{Went, Failed}
use Rattle.pm_meaning.specs.declared.acted.Cause.TheVariants as cause
use Rattle.pm_meaning.specs.declared.process.Outcome.{Outcome}
use Rattle.pm_meaning.specs.declared.process.Outcome.TheVariants.{Done, NotStarted, Lost, Closed, Code, TooLong, Overflow, Unwritten}
use Rattle.pm_meaning.specs.declared.process.ProgramLine.{ProgramLine}
use Rattle.pm_meaning.specs.declared.process.ProgramLine.TheVariants.{Runs, NoWords, Unusable, TooLong as LineTooLong}
use Rattle.pm_meaning.specs.declared.process.Trial.{Trial}
use Rattle.pm_meaning.specs.declared.process.Trial.TheVariants.{Unlocked, NotLocked, Locked}

-- What a recipe hands the mail on for: it is delivered to this destination, its place is taken by what comes out, or this
-- variable gets that.
pub data Purpose : Type 0 where
  Delivers : List ℕ → Purpose
  Filters : Purpose
  Captures : List ℕ → Purpose

-- The flags of a recipe, the text of its lock file, the text that names the automatic one, the text of its action, and what for
-- it hands the mail on.
pub record Task : Type 0 where
  pub flags : Flags
  pub lock : Option (List ℕ)
  pub automatic : List ℕ
  pub text : List ℕ
  pub purpose : Purpose

-- what was tried came out so, and the process then
pub record Tried : Type 0 where
  pub outcome : Outcome
  pub mind : Mind

-- what came of it with its lock file, and the process then
pub record Trying : Type 0 where
  pub trial : Trial
  pub mind : Mind

-- it was done
abbrev pub is_fine : Outcome → Bool
is_fine Done = true
is_fine other = false

-- only the flags w and W heed the exit code
abbrev pub code_outcome : Flags → ℕ → Outcome
code_outcome flags code = if (flags.wait || flags.wait_quiet) && not (nat_eq code 0) then Code code else Done

-- a program that gets the mail takes so many bytes of it, unless the flag i says otherwise
abbrev pub feed_outcome : Flags → ℕ → RunEnd → Outcome
feed_outcome flags count (Ended code took) = if nat_lt took count && not flags.ignore then Closed else code_outcome flags code
feed_outcome flags count RunNotStarted = NotStarted
feed_outcome flags count RunBroken = Lost
feed_outcome flags count RunTooLong = TooLong

-- where it was done the mail went to this destination
abbrev pub stored_if : Outcome → List ℕ → ℕ → Mind → Mind
stored_if outcome folder size p = if is_fine outcome then stored_in folder size p else p

-- a program was run that got so many bytes of the mail
abbrev pub fed : Flags → List ℕ → ℕ → RunEnd → Mind → Tried
fed flags folder count end p = record { outcome = feed_outcome flags count end; mind = stored_if (feed_outcome flags count end) folder count (with_exit_code (code_of end) p) }

-- the program gets these bytes of the mail, which is then at this destination
abbrev pub feed : Flags → List ℕ → Command → List ℕ → Mind → Plan Tried
feed flags folder command input p = and_then (ask (Run command input false)) (λ reply. Ends (fed flags folder (length input) (run_end reply) p))

-- without a fault before, a mail of more than 67,108,864 bytes is one
abbrev pub unless_too_long : Outcome → ℕ → Outcome
unless_too_long outcome size = if is_fine outcome && nat_lt 67108864 size then TooLong else outcome

-- the mail with this output in the place of the parts that the program got
abbrev pub refilled : Feed → List ℕ → Message → List ℕ
refilled Both output message = output
refilled Head output message = output ++ message.body
refilled Body output message = message.head ++ output

-- a filter came to such an end: where it was done this is the mail, and otherwise the mail stays
abbrev pub mail_if : Outcome → List ℕ → Mind → Mind
mail_if outcome mail p = if is_fine outcome then with_message (split_of mail) p else p

-- what a filter comes to that ended so and gave this mail
abbrev pub filtered_to : Flags → ℕ → RunEnd → List ℕ → Mind → Tried
filtered_to flags count end mail p =
    let outcome = unless_too_long (feed_outcome flags count end) (length mail) in
    record { outcome = outcome; mind = mail_if outcome mail (with_exit_code (code_of end) p) }

-- a filter was run that got so many bytes of the mail
abbrev pub filtered : Flags → ℕ → Reply → Mind → Tried
filtered flags count reply p = filtered_to flags count (run_end reply) (refilled (feed_of flags) (text_or [] (output_in reply)) p.message) p

-- the program gets these bytes of the mail, and its output takes their place
abbrev pub filter_mail : Flags → Command → List ℕ → Mind → Plan Tried
filter_mail flags command input p = and_then (ask (Run command input true)) (λ reply. Ends (filtered flags (length input) reply p))

-- a program may leave input where only its output is wanted
abbrev pub end_outcome : Flags → RunEnd → Outcome
end_outcome flags (Ended code took) = code_outcome flags code
end_outcome flags RunNotStarted = NotStarted
end_outcome flags RunBroken = Lost
end_outcome flags RunTooLong = TooLong

-- without a fault before, an output of more than 1,048,576 bytes is one
abbrev pub unless_overflow : Outcome → ℕ → Outcome
unless_overflow outcome size = if is_fine outcome && nat_lt 1048576 size then Overflow size else outcome

-- the variable gets the output without the newlines at its end; that an output is too long for it is remembered
abbrev pub captured_in : List ℕ → List ℕ → Outcome → Mind → Mind
captured_in name output Done p = with_variable name (trimmed output) p
captured_in name output (Overflow size) p = overflowed p
captured_in name output other p = p

-- what a program comes to whose output becomes a variable
abbrev pub captured_as : Flags → List ℕ → RunEnd → List ℕ → Mind → Tried
captured_as flags name end output p =
    let outcome = unless_overflow (end_outcome flags end) (length output) in
    record { outcome = outcome; mind = captured_in name output outcome (with_exit_code (code_of end) p) }

-- a program was run whose output is for this variable
abbrev pub captured : Flags → List ℕ → Reply → Mind → Tried
captured flags name reply p = captured_as flags name (run_end reply) (text_or [] (output_in reply)) p

-- the program gets these bytes of the mail, and the variable what comes out
abbrev pub capture : Flags → List ℕ → Command → List ℕ → Mind → Plan Tried
capture flags name command input p = and_then (ask (Run command input true)) (λ reply. Ends (captured flags name reply p))

-- what is done with a program that gets these bytes of the mail
abbrev pub work_of : Purpose → Flags → List ℕ → Command → Mind → Plan Tried
work_of (Delivers destination) flags input command p = feed flags destination command input p
work_of Filters flags input command p = filter_mail flags command input p
work_of (Captures name) flags input command p = capture flags name command input p

-- a text was written to standard output, or a part of it
abbrev pub write_outcome : Reply → Outcome
write_outcome Wrote = Done
write_outcome other = Unwritten

-- the mail is written to standard output, which is its destination `|`
abbrev pub write : List ℕ → Mind → Plan Tried
write piece p = and_then (ask (WriteOut piece)) (λ reply. Ends (record { outcome = write_outcome reply; mind = stored_if (write_outcome reply) (codes "|") (length piece) p }))

-- the lock is given back after what was tried
abbrev pub unlock_after : List ℕ → ℕ → Tried → Plan Trying
unlock_after name forced t =
    and_then (ask (Unlock name)) (λ reply. Ends (record { trial = Locked name forced t.outcome (is_fault reply); mind = record t.mind { locks = without t.mind.locks name } }))

-- where the lock was got this is tried
abbrev pub try_locked : List ℕ → (Mind → Plan Tried) → Mind → Reply → Plan Trying
try_locked name work p (Held sleeps forced) = and_then (work (with_lock name p)) (unlock_after name forced)
try_locked name work p other = Ends (record { trial = NotLocked name (not_got other); mind = p })

-- this is tried, under a lock file where one is asked for
abbrev pub try_under : Option (List ℕ) → (Mind → Plan Tried) → Mind → Plan Trying
try_under None work p = and_then (work p) (λ t. Ends (record { trial = Unlocked t.outcome; mind = t.mind }))
try_under (Some name) work p = and_then (ask (lock_act name (rule_of p.vars))) (try_locked name work p)

-- this is told of what was tried; under W nothing of a code
abbrev pub outcome_lines : Flags → List ℕ → Outcome → List (List ℕ)
outcome_lines flags line Done = []
outcome_lines flags line NotStarted = couldnt_start_line line ∷ []
outcome_lines flags line Lost = lost_contact_line line ∷ []
outcome_lines flags line Closed = input_closed_line line ∷ []
outcome_lines flags line (Code code) = line_if (not flags.wait_quiet) (program_failure_line code line)
outcome_lines flags line TooLong = output_too_long_line line ∷ []
outcome_lines flags line (Overflow size) = value_too_long_line size ∷ []
outcome_lines flags line Unwritten = couldnt_write_out_line ∷ []

-- and this of the lock file, of what was tried under it, and of the lock file's removal
abbrev pub trial_lines : Flags → List ℕ → Trial → List (List ℕ)
trial_lines flags line (Unlocked outcome) = outcome_lines flags line outcome
trial_lines flags line (NotLocked name cause) = couldnt_lock_line name ∷ []
trial_lines flags line (Locked name forced outcome stuck) =
    (line_if (nat_lt 0 forced) (forcing_lock_line name) ++ outcome_lines flags line outcome) ++ line_if stuck (couldnt_unlock_line name)

-- it was done, with its lock file
abbrev pub is_fine_trial : Trial → Bool
is_fine_trial (Unlocked outcome) = is_fine outcome
is_fine_trial (NotLocked name cause) = false
is_fine_trial (Locked name forced outcome stuck) = is_fine outcome

-- a recipe whose action was done succeeded
abbrev pub settled_by : Trial → Mind → Mind
settled_by trial p = if is_fine_trial trial then succeeded p else p

-- it was done: the mail was delivered, for good or as a copy, or it or a variable was changed
abbrev pub done_acted : Purpose → Flags → Acted
done_acted (Delivers destination) flags = all_stored flags
done_acted other flags = Went

-- what came of what was tried: where it wasn't done the cause
abbrev pub outcome_acted : Purpose → Flags → Outcome → Acted
outcome_acted purpose flags Done = done_acted purpose flags
outcome_acted purpose flags NotStarted = Failed cause.NotStarted
outcome_acted purpose flags Lost = Failed cause.Broken
outcome_acted purpose flags Closed = Failed cause.Closed
outcome_acted purpose flags (Code code) = Failed (cause.Code code)
outcome_acted purpose flags TooLong = Failed cause.TooLong
outcome_acted purpose flags (Overflow size) = Failed (cause.Overflow size)
outcome_acted purpose flags Unwritten = Failed cause.WriteFailed

-- and with its lock file
abbrev pub trial_acted : Purpose → Flags → Trial → Acted
trial_acted purpose flags (Unlocked outcome) = outcome_acted purpose flags outcome
trial_acted purpose flags (NotLocked name cause) = Failed cause
trial_acted purpose flags (Locked name forced outcome stuck) = outcome_acted purpose flags outcome

-- the mail is delivered, for good or as a copy
abbrev pub is_delivery : Purpose → Bool
is_delivery (Delivers destination) = true
is_delivery other = false

-- what is told, with the abstract of a copy, and what comes after it, once it is known whether the recipe succeeded
abbrev pub after_trial : Task → Trying → Plan ActEnd
after_trial t done = let q = settled_by done.trial done.mind in say_each q (trial_lines t.flags t.text done.trial ++ copy_lines (is_delivery t.purpose && is_fine_trial done.trial) t.flags q) (record { acted = trial_acted t.purpose t.flags done.trial; mind = q })

-- this is tried, and what came of it is told
abbrev pub try_and_say : Task → Option (List ℕ) → (Mind → Plan Tried) → Mind → Plan ActEnd
try_and_say t lock work p = and_then (try_under lock work p) (after_trial t)

-- what stands after the first `>>`
abbrev pub after_arrows : List ℕ → List ℕ
after_arrows [] = []
after_arrows (byte ∷ bytes) = if starts_with nat_eq (byte ∷ bytes) (codes ">>") then drop 1 bytes else after_arrows bytes

-- a byte that no shell takes for a part of a name
abbrev pub ends_name : ℕ → Bool
ends_name byte = is_space_byte byte || list_any (λ other. other == byte) (codes ";|&<>)")

-- the text up to such a byte
abbrev pub up_to_end : List ℕ → List ℕ
up_to_end text = take (position_or_len ends_name text) text

-- the name of the file to which a line appends: it stands after the first `>>` and blanks
abbrev pub appended_name : List ℕ → List ℕ
appended_name line = up_to_end (after_blanks (after_arrows line))

-- the automatic lock file is asked for
abbrev pub is_automatic : Option (List ℕ) → Bool
is_automatic None = false
is_automatic (Some text) = is_empty text

-- the text that names the lock file
abbrev pub lock_source : Task → List ℕ
lock_source t = if is_automatic t.lock then t.automatic else text_or [] t.lock

-- how that text is expanded: the automatic one's is quoted
abbrev pub lock_mode : Task → Mode
lock_mode t = if is_automatic t.lock then Quoted else One

-- there is no automatic lock file
abbrev pub lacks_lock : Task → Bool
lacks_lock t = is_automatic t.lock && is_empty t.automatic

-- the lock file by what its text expands to: the automatic one has LOCKEXT after it
abbrev pub named_lock : Task → List ℕ → Mind → Option (List ℕ)
named_lock t value p =
    if lacks_lock t then None
    else if is_automatic t.lock then Some (value ++ value_or (codes ".lock") (codes "LOCKEXT") p.vars)
    else if is_some t.lock then Some value
    else None

-- that there is no automatic lock file is told before this
abbrev pub told_first : Task → Mind → Plan ActEnd → Plan ActEnd
told_first t p next = if lacks_lock t then and_then (log (no_lock_line t.text) p) (λ done. next) else next

-- the lock file isn't held yet
abbrev pub do_under : Task → Option (List ℕ) → (Mind → Plan Tried) → Mind → Plan ActEnd
do_under t lock work p =
    if is_taken lock [] p.locks then refuse_act cause.NameIsLock (blamed_text t.lock t.text) p
    else told_first t p (try_and_say t lock work p)

-- the lock file's name can be a file's
abbrev pub do_named : Task → Option (List ℕ) → (Mind → Plan Tried) → Mind → Plan ActEnd
do_named t word work p =
    if not (is_lock_word word) then refuse_act cause.BadName (blamed_text t.lock t.text) p
    else do_under t (full_lock p.base word) work p

-- the text that is told where a word of the line is unusable: the lock file's name is looked at before the words
abbrev pub unusable_text : Task → Option (List ℕ) → List ℕ
unusable_text t word = if is_lock_word word then t.text else blamed_text t.lock t.text

-- by how the line is read
abbrev pub do_line : Task → Option (List ℕ) → (Command → Mind → Plan Tried) → ProgramLine → Mind → Plan ActEnd
do_line t word work (Runs command) p = do_named t word (work command) p
do_line t word work NoWords p = refuse_act cause.NoWords t.text p
do_line t word work Unusable p = refuse_act cause.BadName (unusable_text t word) p
do_line t word work (LineTooLong count) p = overflow_act count p

-- the commands of the lock file's text
abbrev pub lock_commands : Task → List (List ℕ)
lock_commands t = commands_in (lock_mode t) (lock_source t)

-- the lock file's text is expanded with these outputs of its commands, and then this comes with its name
abbrev pub lock_first : Task → List (List ℕ) → (Option (List ℕ) → Plan ActEnd) → Mind → Plan ActEnd
lock_first t outputs next p =
    if is_too_long (lock_mode t) (lock_source t) p.vars outputs then skip_act (lock_mode t) (lock_source t) outputs p
    else next (named_lock t (first_word (words_in (lock_mode t) p.vars outputs (lock_source t))) p)

-- the parts of the mail that the flags h and b feed, as they are
abbrev pub fed_piece : Flags → Mind → List ℕ
fed_piece flags p = piece_of p.message (feed_of flags) Other flags.raw

-- the lock file's text is expanded before the line, with the outputs of their commands
abbrev pub program_with : Task → Reading → Ready → Plan ActEnd
program_with t reading ready =
    let p = ready.mind in
    lock_first t ready.lock_outputs (λ word. do_line t word (work_of t.purpose t.flags (fed_piece t.flags p)) (reading.read ready.outputs p) p) p

-- a program is run; all commands are run before a text is expanded
abbrev pub do_program : Task → Reading → Mind → Plan ActEnd
do_program t reading p = and_then (make_ready (lock_commands t) reading.commands p) (λ ready. program_with t reading ready)

-- a pipe's program filters the mail under the flag f, and otherwise the mail is delivered to it
abbrev pub pipe_purpose : Flags → List ℕ → Purpose
pipe_purpose flags line = if flags.filter then Filters else Delivers line

-- a pipe, whose lock file is named by the file to which it appends
abbrev pub pipe_task : Flags → Option (List ℕ) → List ℕ → Task
pipe_task flags lock line = record { flags = flags; lock = lock; automatic = appended_name line; text = line; purpose = pipe_purpose flags line }

-- `| program`
abbrev pub pipe : Flags → Option (List ℕ) → List ℕ → Mind → Plan ActEnd
pipe flags lock line p = do_program (pipe_task flags lock line) (line_reading line p) p

-- a capture is a pipe whose output is for this variable
abbrev pub capture_task : Flags → Option (List ℕ) → List ℕ → List ℕ → Task
capture_task flags lock name line = record { flags = flags; lock = lock; automatic = appended_name line; text = line; purpose = Captures name }

-- `NAME=| program`
abbrev pub capture_line : Flags → Option (List ℕ) → List ℕ → List ℕ → Mind → Plan ActEnd
capture_line flags lock name line p = do_program (capture_task flags lock name line) (line_reading line p) p

-- mail that is forwarded goes to `!` and the addresses as they are written; there is no automatic lock file
abbrev pub forward_task : Flags → Option (List ℕ) → List ℕ → Task
forward_task flags lock text = record { flags = flags; lock = lock; automatic = []; text = text; purpose = Delivers (codes "!" ++ text) }

-- `! addresses`
abbrev pub forward : Flags → Option (List ℕ) → List ℕ → Mind → Plan ActEnd
forward flags lock text p = do_program (forward_task flags lock text) (forward_reading text) p

-- standard output has no automatic lock file
abbrev pub write_task : Flags → Option (List ℕ) → Task
write_task flags lock = record { flags = flags; lock = lock; automatic = []; text = codes "|"; purpose = Delivers (codes "|") }

-- the mail is written to standard output, under its lock file
abbrev pub write_with : Task → Ready → Plan ActEnd
write_with t ready = lock_first t ready.lock_outputs (λ word. do_named t word (write (fed_piece t.flags ready.mind)) ready.mind) ready.mind

-- `|` alone: the piece goes to the output
abbrev pub write_out : Flags → Option (List ℕ) → Mind → Plan ActEnd
write_out flags lock p = let t = write_task flags lock in and_then (make_ready (lock_commands t) [] p) (λ ready. write_with t ready)
