-- What a recipe does that delivers to mailboxes.
use Rattle.std.specs.Prelude.{ℕ, ℤ, ◌+◌, Bool, true, false, not, ◌&&◌, List, [], ◌∷◌, ◌++◌, Option, Some, None, map, length, codes, nat_lt, if◌then◌else◌}
use Rattle.pm_bytes.specs.Name.{is_usable}
use Rattle.pm_bytes.specs.Path.{full_name}
use Rattle.pm_message.specs.Piece.{piece_of}
use Rattle.pm_message.specs.declared.pieces.Feed.{Feed}
use Rattle.pm_message.specs.declared.pieces.Feed.TheVariants.{Both, Head, Body}
use Rattle.pm_message.specs.declared.pieces.Kind.TheVariants.{MailboxFile, Other}
use Rattle.pm_recipe.specs.declared.tree.Flags.{Flags}
use Rattle.pm_subst.specs.Commands.{commands_in}
use Rattle.pm_subst.specs.Words.{words_in}
use Rattle.pm_subst.specs.declared.kinds.Mode.TheVariants.{One, Many}
use Rattle.pm_journal.specs.Held.{without}
use Rattle.pm_journal.specs.Locking.{lock_act}
use Rattle.pm_journal.specs.LogText.{couldnt_write_line, bytes_left_line, no_free_name_line, unusable_name_line, couldnt_lock_line, forcing_lock_line, couldnt_unlock_line}
use Rattle.pm_journal.specs.declared.acts.Act.TheVariants.{Append, Place, Unlock, Moment}
use Rattle.pm_journal.specs.declared.acts.Reply.{Reply}
use Rattle.pm_journal.specs.declared.acts.Reply.TheVariants.{Done, IsFolder, Raced as RacedReply, Torn, Placed, TornAt, NamesOut, Held, Busy, Now}
use Rattle.pm_journal.specs.declared.placing.FolderKind.{FolderKind}
use Rattle.pm_journal.specs.declared.placing.FolderKind.TheVariants.{Plain}
use Rattle.pm_journal.specs.declared.placing.Stamp.{Stamp}
use Rattle.pm_journal.specs.Plan.{Plan, Ends, and_then, ask}
use Rattle.pm_meaning.specs.Chains.{succeeded}
use Rattle.pm_meaning.specs.Changes.{counted, stored_in}
use Rattle.pm_meaning.specs.Destinations.{destination_of, full_of, are_file_texts}
use Rattle.pm_meaning.specs.Locks.{is_fault, text_or, value_or, rule_of, is_nothing, lock_word, blamed_text, is_lock_word, full_lock, is_taken, any_held, with_lock}
use Rattle.pm_meaning.specs.Outputs.{outputs_of}
use Rattle.pm_meaning.specs.Abstracts.{copy_lines}
use Rattle.pm_meaning.specs.Logging.{log}
use Rattle.pm_meaning.specs.Turns.{ActEnd, is_for_good, refuse_act, is_too_long, skip_act}
use Rattle.pm_meaning.specs.Assigning.{value_in}
use Rattle.pm_meaning.specs.Minds.{Mind}
use Rattle.pm_meaning.specs.declared.acted.Acted.{Acted}
use Rattle.pm_meaning.specs.declared.acted.Acted.TheVariants.{Delivered, CopyDone, Failed}
use Rattle.pm_meaning.specs.declared.acted.Cause.{Cause}
use Rattle.pm_meaning.specs.declared.acted.Cause.TheVariants as cause
use Rattle.pm_meaning.specs.declared.process.Destination.{Destination}
use Rattle.pm_meaning.specs.declared.process.Filed.{Filed}
use Rattle.pm_meaning.specs.declared.process.Filed.TheVariants.{Stored, Unwritten, Raced, Left, Crowded, Unnamed}
use Rattle.pm_meaning.specs.declared.process.Attempt.{Attempt}
use Rattle.pm_meaning.specs.declared.process.Attempt.TheVariants.{Unlocked, NotLocked, Locked}

-- one of the flags h and b feeds that part alone
abbrev pub feed_of : Flags → Feed
feed_of flags =
    if flags.feed_head && not flags.feed_body then Head
    else if flags.feed_body && not flags.feed_head then Body
    else Both

-- the bytes that a mailbox file gets
abbrev pub mailbox_piece : Flags → Mind → List ℕ
mailbox_piece flags p = piece_of p.message (feed_of flags) MailboxFile flags.raw

-- the bytes that a file of its own gets in a folder
abbrev pub folder_piece : Flags → Mind → List ℕ
folder_piece flags p = piece_of p.message (feed_of flags) Other flags.raw

-- what came of a destination, or of several in order up to one that didn't get the mail, and the process then
pub record Filing : Type 0 where
  pub filed : Filed
  pub mind : Mind

-- what makes the name of the next file in a folder
abbrev pub next_stamp : Mind → ℤ → Stamp
next_stamp p moment = record { moment = moment; pid = p.vars.marks.pid; serial = p.placed + 1; host_name = p.host_name }

-- what came of filing in this folder; the file with the mail is remembered
abbrev pub placed_by : List ℕ → ℕ → Mind → Reply → Filing
placed_by folder size p (Placed name) = record { filed = Stored; mind = stored_in name size p }
placed_by folder size p (TornAt name count) = record { filed = Left name count; mind = p }
placed_by folder size p NamesOut = record { filed = Crowded folder; mind = p }
placed_by folder size p other = record { filed = Unwritten folder; mind = p }

-- the moment was told, and the piece is filed under it
abbrev pub placed_at : FolderKind → List ℕ → List ℕ → List ℕ → Mind → Reply → Plan Filing
placed_at kind folder prefix piece p (Now moment) =
    and_then (ask (Place kind folder prefix piece (next_stamp p moment))) (λ reply. Ends (placed_by folder (length piece) (counted p) reply))
placed_at kind folder prefix piece p other = Ends (record { filed = Unwritten folder; mind = p })

-- a folder gets the piece as a file of its own
abbrev pub in_folder : FolderKind → List ℕ → List ℕ → List ℕ → Mind → Plan Filing
in_folder kind folder prefix piece p = and_then (ask Moment) (placed_at kind folder prefix piece p)

-- how names in a plain folder begin
abbrev pub plain_prefix : Mind → List ℕ
plain_prefix p = value_or (codes "msg.") (codes "MSGPREFIX") p.vars

-- a plain folder gets the mail, if a name can begin so
abbrev pub in_plain : Flags → List ℕ → Mind → Plan Filing
in_plain flags folder p =
    if is_usable (plain_prefix p) then in_folder Plain folder (plain_prefix p) (folder_piece flags p) p
    else Ends (record { filed = Unnamed; mind = p })

-- what came of an append to this file, where this is the process once it has the mail; where a folder stands, that gets it
abbrev pub appended_by : Flags → List ℕ → Mind → Mind → Reply → Plan Filing
appended_by flags name stored p Done = Ends (record { filed = Stored; mind = stored })
appended_by flags name stored p IsFolder = in_plain flags name p
appended_by flags name stored p RacedReply = Ends (record { filed = Raced name; mind = p })
appended_by flags name stored p (Torn count) = Ends (record { filed = Left name count; mind = p })
appended_by flags name stored p other = Ends (record { filed = Unwritten name; mind = p })

-- a file gets the piece, and `/dev/null` takes it without an act
abbrev pub to_file : Flags → List ℕ → List ℕ → Mind → Mind → Plan Filing
to_file flags name piece stored p =
    if is_nothing name then Ends (record { filed = Stored; mind = stored })
    else and_then (ask (Append name piece)) (appended_by flags name stored p)

-- how many bytes a file of this name gets: `/dev/null` gets those of no mailbox
abbrev pub file_size : List ℕ → Flags → Mind → ℕ
file_size name flags p = if is_nothing name then length (folder_piece flags p) else length (mailbox_piece flags p)

-- one destination; a file is remembered by its name as written
abbrev pub file_as : Option FolderKind → Flags → List ℕ → Mind → Plan Filing
file_as None flags name p =
    to_file flags (full_name p.base name) (mailbox_piece flags p) (stored_in name (file_size (full_name p.base name) flags p) p) p
file_as (Some kind) flags name p = in_folder kind (full_name p.base name) [] (folder_piece flags p) p

-- the filing into one destination
abbrev pub file_one : Flags → Destination → Mind → Plan Filing
file_one flags destination p = file_as destination.kind flags destination.name p

-- each destination has the mail
abbrev pub is_stored : Filed → Bool
is_stored Stored = true
is_stored other = false

-- each destination in order, up to one that doesn't get the mail
abbrev pub file_all : Flags → List Destination → Mind → Plan Filing
file_all flags [] p = Ends (record { filed = Stored; mind = p })
file_all flags (destination ∷ destinations) p =
    and_then (file_one flags destination p) (λ filing. if is_stored filing.filed then file_all flags destinations filing.mind else Ends filing)

-- under the flag c a copy was delivered
abbrev pub all_stored : Flags → Acted
all_stored flags = if flags.copy then CopyDone else Delivered

-- what came of an attempt to deliver, and the process then
pub record Attempted : Type 0 where
  pub attempt : Attempt
  pub mind : Mind

-- why a lock wasn't got: another had it at each try, or a call failed
abbrev pub not_got : Reply → Cause
not_got Busy = cause.Busy
not_got other = cause.LockFailed

-- the lock is given back
abbrev pub give_back : List ℕ → ℕ → Filing → Plan Attempted
give_back name forced filing =
    and_then (ask (Unlock name))
    (λ reply. Ends (record { attempt = Locked name forced filing.filed (is_fault reply); mind = record filing.mind { locks = without filing.mind.locks name } }))

-- where the lock was got, the destinations get the mail, and then it is given back
abbrev pub under_lock : List ℕ → Flags → List Destination → Mind → Reply → Plan Attempted
under_lock name flags destinations p (Held sleeps forced) = and_then (file_all flags destinations (with_lock name p)) (give_back name forced)
under_lock name flags destinations p other = Ends (record { attempt = NotLocked name (not_got other); mind = p })

-- the destinations get the mail, under a lock file where one is asked for
abbrev pub attempt : Option (List ℕ) → Flags → List Destination → Mind → Plan Attempted
attempt None flags destinations p =
    and_then (file_all flags destinations p) (λ filing. Ends (record { attempt = Unlocked filing.filed; mind = filing.mind }))
attempt (Some name) flags destinations p = and_then (ask (lock_act name (rule_of p.vars))) (under_lock name flags destinations p)

-- this is told of the destination that didn't get the mail; where MSGPREFIX is at fault, by the action's text
abbrev pub filed_lines : List ℕ → Filed → List (List ℕ)
filed_lines text Stored = []
filed_lines text (Unwritten name) = couldnt_write_line name ∷ []
filed_lines text (Raced name) = couldnt_write_line name ∷ []
filed_lines text (Left name count) = bytes_left_line count name ∷ []
filed_lines text (Crowded name) = no_free_name_line name ∷ []
filed_lines text Unnamed = unusable_name_line text ∷ []

-- a line that is told where this holds
abbrev pub line_if : Bool → List ℕ → List (List ℕ)
line_if told line = if told then line ∷ [] else []

-- what is told of an attempt: of the lock, of the destinations, and of the lock's removal
abbrev pub attempt_lines : List ℕ → Attempt → List (List ℕ)
attempt_lines text (Unlocked filed) = filed_lines text filed
attempt_lines text (NotLocked name cause) = couldnt_lock_line name ∷ []
attempt_lines text (Locked name forced filed stuck) =
    (line_if (nat_lt 0 forced) (forcing_lock_line name) ++ filed_lines text filed) ++ line_if stuck (couldnt_unlock_line name)

-- what came of the destinations: of one that didn't get the mail the cause
abbrev pub filed_acted : Flags → Filed → Acted
filed_acted flags Stored = all_stored flags
filed_acted flags (Unwritten name) = Failed cause.Undone
filed_acted flags (Raced name) = Failed cause.Raced
filed_acted flags (Left name count) = Failed cause.Torn
filed_acted flags (Crowded name) = Failed cause.NamesOut
filed_acted flags Unnamed = Failed cause.BadName

-- what came of an attempt
abbrev pub attempt_acted : Flags → Attempt → Acted
attempt_acted flags (Unlocked filed) = filed_acted flags filed
attempt_acted flags (NotLocked name cause) = Failed cause
attempt_acted flags (Locked name forced filed stuck) = filed_acted flags filed

-- each line is told, and then this comes
abbrev pub say_each : {R : Type 0} → Mind → List (List ℕ) → R → Plan R
say_each p [] next = Ends next
say_each p (line ∷ lines) next = and_then (log line p) (λ done. say_each p lines next)

-- the attempt got the mail to each destination
abbrev pub is_done : Attempt → Bool
is_done (Unlocked filed) = is_stored filed
is_done (NotLocked name cause) = false
is_done (Locked name forced filed stuck) = is_stored filed

-- a recipe that got the mail to each destination succeeded
abbrev pub settled : Attempt → Mind → Mind
settled attempt p = if is_done attempt then succeeded p else p

-- what is told of an attempt, with the abstract of a copy, and what comes after it
abbrev pub told : Flags → List ℕ → Attempt → Mind → Plan ActEnd
told flags text attempt p = say_each p (attempt_lines text attempt ++ copy_lines (is_done attempt) flags p) (record { acted = attempt_acted flags attempt; mind = p })

-- what comes after an attempt, once it is known whether the recipe succeeded
abbrev pub after_attempt : Flags → List ℕ → Attempted → Plan ActEnd
after_attempt flags text done = told flags text done.attempt (settled done.attempt done.mind)

-- the mail is delivered, and what came of it is told
abbrev pub file_and_say : Flags → Option (List ℕ) → List ℕ → List Destination → Mind → Plan ActEnd
file_and_say flags lock text destinations p = and_then (attempt lock flags destinations p) (after_attempt flags text)

-- a lock file is none of the destinations and not held yet, and no destination is a held lock file
abbrev pub deliver_at : Flags → Option (List ℕ) → List ℕ → List ℕ → List Destination → Mind → Plan ActEnd
deliver_at flags lock blamed text destinations p =
    if is_taken lock (map (full_of p.base) destinations) p.locks then refuse_act cause.NameIsLock blamed p
    else if any_held (map (full_of p.base) destinations) p.locks then refuse_act cause.NameIsLock text p
    else file_and_say flags lock text destinations p

-- there are destinations, and the name of each can be that of a file or a folder
abbrev pub deliver_named : Flags → Option (List ℕ) → List ℕ → List ℕ → List (List ℕ) → Mind → Plan ActEnd
deliver_named flags word blamed text words p =
    if not (are_file_texts words) then refuse_act cause.BadName text p
    else deliver_at flags (full_lock p.base word) blamed text (map destination_of words) p

-- there is no destination
abbrev pub is_without : List (List ℕ) → Bool
is_without [] = true
is_without (word ∷ words) = false

-- there are destinations, and the lock file's name can be a file's
abbrev pub deliver_to : Flags → Option (List ℕ) → List ℕ → List ℕ → List (List ℕ) → Mind → Plan ActEnd
deliver_to flags lock value text words p =
    if is_without words then refuse_act cause.NoWords text p
    else if not (is_lock_word (lock_word lock value words p)) then refuse_act cause.BadName (blamed_text lock text) p
    else deliver_named flags (lock_word lock value words p) (blamed_text lock text) text words p

-- the action's text is expanded with these outputs of its commands, by the variables as they stand
abbrev pub deliver_text : Flags → Option (List ℕ) → List ℕ → List ℕ → List (List ℕ) → Mind → Plan ActEnd
deliver_text flags lock value text outputs p =
    if is_too_long Many text p.vars outputs then skip_act Many text outputs p
    else deliver_to flags lock value text (words_in Many p.vars outputs text) p

-- the outputs of the commands of an action's lock file and of its own text, and the process then
pub record Ready : Type 0 where
  pub lock_outputs : List (List ℕ)
  pub outputs : List (List ℕ)
  pub mind : Mind

-- the lock file's text is expanded before that of the action
abbrev pub deliver_with : Flags → Option (List ℕ) → List ℕ → Ready → Plan ActEnd
deliver_with flags lock text ready =
    if is_too_long One (text_or [] lock) ready.mind.vars ready.lock_outputs then skip_act One (text_or [] lock) ready.lock_outputs ready.mind
    else deliver_text flags lock (value_in ready.mind.vars ready.lock_outputs (text_or [] lock)) text ready.outputs ready.mind

-- the commands of a lock file's text are run before those of the action's text
abbrev pub make_ready : List (List ℕ) → List (List ℕ) → Mind → Plan Ready
make_ready lock_commands commands p =
    and_then (outputs_of lock_commands p)
    (λ first. and_then (outputs_of commands first.mind)
    (λ second. Ends (record { lock_outputs = first.outputs; outputs = second.outputs; mind = second.mind })))

-- all commands are run before a text is expanded
abbrev pub deliver : Flags → Option (List ℕ) → List ℕ → Mind → Plan ActEnd
deliver flags lock text p =
    and_then (make_ready (commands_in One (text_or [] lock)) (commands_in Many text) p) (λ ready. deliver_with flags lock text ready)

-- the flags of a recipe that has no letters
abbrev pub no_flags : Flags
no_flags = record {
  search_head = false;
  search_body = false;
  distinguish = false;
  feed_head = false;
  feed_body = false;
  filter = false;
  copy = false;
  wait = false;
  wait_quiet = false;
  ignore = false;
  raw = false;
  and_chain = false;
  and_ok = false;
  or_else = false;
  on_error = false;
}

-- the mail goes to this mailbox as by a recipe `:0:`, under its automatic lock file
abbrev pub deliver_default : List ℕ → Mind → Plan ActEnd
deliver_default mailbox p = deliver_to no_flags (Some []) [] mailbox (mailbox ∷ []) p

-- each of these mailboxes is tried in order, up to one that gets the mail; without one this came of it
abbrev pub try_each : List (List ℕ) → Acted → Mind → Plan ActEnd
try_each [] last p = Ends (record { acted = last; mind = p })
try_each (mailbox ∷ mailboxes) last p =
    and_then (deliver_default mailbox p) (λ came. if is_for_good came.acted then Ends came else try_each mailboxes came.acted came.mind)
