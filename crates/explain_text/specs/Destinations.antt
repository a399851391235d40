-- Where a run delivered the mail to, as its journal tells.
use Rattle.std.specs.Prelude.{ℕ, Bool, true, false, not, ◌&&◌, ◌||◌, ◌==◌, List, [], ◌∷◌, ◌++◌, length, drop, map, Option, Some, None, bytes_eq, codes, nat_eq, if◌then◌else◌}
use Rattle.std.specs.List.{starts_with}
use Rattle.std.specs.Option.{unwrap_or}
use Rattle.bstr.specs.Text.{lines_of, without_terminator}
use Rattle.log_summary.specs.LogLines.{delivery_in}
use Rattle.pm_bytes.specs.declared.environment.Pair.{Pair}
use Rattle.pm_host.specs.declared.command.Command.{Command}
use Rattle.pm_journal.specs.declared.acts.Act.{Act}
use Rattle.pm_journal.specs.declared.acts.Act.TheVariants.{ReadFile, Probe, Append, Place, Lock, Unlock, Run, SayFile, SayErr, WriteOut, Moment}
use Rattle.pm_journal.specs.declared.acts.Entry.{Entry}
use Rattle.pm_journal.specs.declared.acts.Reply.{Reply}
use Rattle.pm_journal.specs.declared.acts.Reply.TheVariants.{Done, Placed, Ended, Wrote}
use Rattle.pm_overlay.specs.Given.{line_of, spaced}
use Rattle.explain_text.specs.declared.destination.Destination.{Destination}
use Rattle.explain_text.specs.declared.destination.Destination.TheVariants.{File, Folder, Program, Forward, Output}

-- the value of a variable: the first of its name, and nothing where it isn't there
abbrev pub value_in : List ℕ → List Pair → List ℕ
value_in name [] = []
value_in name (pair ∷ pairs) = if bytes_eq name pair.name then pair.value else value_in name pairs

-- the folder that the first of these lines names which names one
abbrev pub folder_or : Option (List ℕ × ℕ) → Option (List ℕ) → Option (List ℕ)
folder_or None later = later
folder_or (Some told) later = Some told.0

abbrev pub folder_among : List (List ℕ) → Option (List ℕ)
folder_among [] = None
folder_among (line ∷ lines) = folder_or (delivery_in line) (folder_among lines)

-- the folder that an abstract names
abbrev pub folder_told : List ℕ → Option (List ℕ)
folder_told text = folder_among (map without_terminator (lines_of text))

-- an abstract tells a delivery, and that of `/dev/null` that it was none by a program
abbrev pub is_other_folder : Option (List ℕ) → Option Bool
is_other_folder None = None
is_other_folder (Some name) = Some (not (bytes_eq name (codes "/dev/null")))

-- another LASTFOLDER than before, which `/dev/null` isn't
abbrev pub is_new : List ℕ → List ℕ → Bool
is_new last found = not (bytes_eq found last) && not (bytes_eq found (codes "/dev/null"))

-- what was delivered next went elsewhere
abbrev pub not_if_done : Reply → Option Bool
not_if_done Done = Some false
not_if_done other = None

abbrev pub not_if_placed : Reply → Option Bool
not_if_placed (Placed name) = Some false
not_if_placed other = None

abbrev pub not_if_written : Reply → Option Bool
not_if_written Wrote = Some false
not_if_written other = None

-- whether an entry tells that a program before it delivered, which found this LASTFOLDER; nothing where it tells neither
abbrev pub told_by : List ℕ → Act → Reply → Option Bool
told_by last (SayFile name text) reply = is_other_folder (folder_told text)
told_by last (SayErr text) reply = is_other_folder (folder_told text)
told_by last (Run command input want) reply = Some (is_new last (value_in (codes "LASTFOLDER") command.env))
told_by last (Append name piece) reply = not_if_done reply
told_by last (Place kind folder prefix piece stamp) reply = not_if_placed reply
told_by last (WriteOut piece) reply = not_if_written reply
told_by last (ReadFile name) reply = None
told_by last (Probe name) reply = None
told_by last (Lock name sleep limit suspend tries) reply = None
told_by last (Unlock name) reply = None
told_by last Moment reply = None

-- the first of these entries that tells it says that the program delivered
abbrev pub tells_delivery : List ℕ → List Entry → Bool
tells_delivery last [] = false
tells_delivery last (entry ∷ rest) = unwrap_or (told_by last entry.act entry.reply) (tells_delivery last rest)

-- what stands before the addresses: SENDMAILFLAGS between blanks
unfoldable pub sendmail_front : List ℕ → List ℕ
sendmail_front [] = codes " "
sendmail_front (byte ∷ flags) = codes " " ++ (byte ∷ flags) ++ codes " "

-- the addresses behind it; an option is none
unfoldable pub addresses_in : List ℕ → List ℕ → Option (List ℕ)
addresses_in words front =
    if starts_with nat_eq words front && not (bytes_eq (drop (length front) words) []) && not (starts_with nat_eq (drop (length front) words) (codes "-"))
    then Some (drop (length front) words) else None

-- the addresses to which a command forwards mail: it is SENDMAIL with the words of SENDMAILFLAGS
abbrev pub forwarded_to : Command → Option (List ℕ)
forwarded_to command =
    if bytes_eq command.program (value_in (codes "SENDMAIL") command.env)
    then addresses_in (spaced command.args) (sendmail_front (value_in (codes "SENDMAILFLAGS") command.env)) else None

-- a program that ended with this code was a delivery: it is told so, or addresses got the mail
abbrev pub delivered_by : Option (List ℕ) → Command → ℕ → Bool → Option Destination
delivered_by (Some addresses) command code told = if told || (code == 0) then Some (Forward addresses) else None
delivered_by None command code told = if told then Some (Program (line_of command)) else None

-- a program whose output is wanted delivers nothing
abbrev pub ran : Command → Bool → Reply → List Entry → Option Destination
ran command want (Ended code took output) rest =
    if not want then delivered_by (forwarded_to command) command code (tells_delivery (value_in (codes "LASTFOLDER") command.env) rest) else None
ran command want other rest = None

abbrev pub appended_to : List ℕ → Reply → Option Destination
appended_to name Done = Some (File name)
appended_to name other = None

abbrev pub placed_in : List ℕ → Reply → Option Destination
placed_in folder (Placed name) = Some (Folder folder)
placed_in folder other = None

abbrev pub written_out : Reply → Option Destination
written_out Wrote = Some Output
written_out other = None

-- the destination that got the mail by an entry, after which these come
abbrev pub destination_at : Act → Reply → List Entry → Option Destination
destination_at (Append name piece) reply rest = appended_to name reply
destination_at (Place kind folder prefix piece stamp) reply rest = placed_in folder reply
destination_at (WriteOut piece) reply rest = written_out reply
destination_at (Run command input want) reply rest = ran command want reply rest
destination_at (ReadFile name) reply rest = None
destination_at (Probe name) reply rest = None
destination_at (Lock name sleep limit suspend tries) reply rest = None
destination_at (Unlock name) reply rest = None
destination_at (SayFile name text) reply rest = None
destination_at (SayErr text) reply rest = None
destination_at Moment reply rest = None

-- it, if there is one
abbrev pub added : Option Destination → List Destination
added None = []
added (Some one) = one ∷ []

-- those of a journal, in order
abbrev pub delivered_in : List Entry → List Destination
delivered_in [] = []
delivered_in (entry ∷ rest) = added (destination_at entry.act entry.reply rest) ++ delivered_in rest

-- the program that an act starts, or else this one
abbrev pub found_by : Act → Option Command → Option Command
found_by (Run command input want) found = Some command
found_by (ReadFile name) found = found
found_by (Probe name) found = found
found_by (Append name piece) found = found
found_by (Place kind folder prefix piece stamp) found = found
found_by (Lock name sleep limit suspend tries) found = found
found_by (Unlock name) found = found
found_by (SayFile name text) found = found
found_by (SayErr text) found = found
found_by (WriteOut piece) found = found
found_by Moment found = found

-- the last program of these entries, or else this one
abbrev pub last_found : List Entry → Option Command → Option Command
last_found [] found = found
last_found (entry ∷ rest) found = last_found rest (found_by entry.act found)

-- the last program of a journal
abbrev pub last_program : List Entry → Option Command
last_program entries = last_found entries None

-- it found that the mail went to `/dev/null`
abbrev pub is_discarded : Option Command → Bool
is_discarded None = false
is_discarded (Some command) = bytes_eq (value_in (codes "LASTFOLDER") command.env) (codes "/dev/null")

-- the destinations of a run, in order
abbrev pub destinations_of : List Entry → List Destination
destinations_of entries =
    if is_discarded (last_program entries) then delivered_in entries ++ (File (codes "/dev/null") ∷ []) else delivered_in entries
