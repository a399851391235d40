-- Deliveries to default mailboxes write nothing to the standard output.
use Rattle.std.proofs.Common.{ℕ, List, [], ◌∷◌, ◌++◌, Option, Some, None}
use Rattle.std.specs.Prelude.{map, not}
use Rattle.pm_bytes.specs.Name.{is_usable}
use Rattle.pm_bytes.specs.Path.{full_name}
use Rattle.pm_recipe.specs.declared.tree.Flags.{Flags}
use Rattle.pm_journal.specs.Plan.{Ends}
use Rattle.pm_journal.specs.declared.acts.Reply.{Reply}
use Rattle.pm_journal.specs.declared.acts.Reply.TheVariants.{IsFolder, Held, Now}
use Rattle.pm_journal.specs.declared.placing.FolderKind.{FolderKind}
use Rattle.pm_journal.specs.declared.placing.FolderKind.TheVariants.{Plain}
use Rattle.pm_meaning.specs.Abstracts.{copy_lines}
use Rattle.pm_meaning.specs.Delivering.{Attempted, folder_piece, mailbox_piece, placed_at, in_folder, plain_prefix, in_plain, appended_by, to_file, file_size, file_as, file_one, is_stored, file_all, give_back, under_lock, attempt, attempt_lines, attempt_acted, is_done, settled, say_each, after_attempt, file_and_say, deliver_at, deliver_named, is_without, deliver_to, no_flags, deliver_default, try_each}
use Rattle.pm_meaning.specs.Changes.{stored_in}
use Rattle.pm_meaning.specs.Destinations.{full_of, destination_of, are_file_texts}
use Rattle.pm_meaning.specs.Locks.{is_nothing, is_lock_word, lock_word, full_lock, is_taken, any_held, blamed_text, with_lock}
use Rattle.pm_meaning.specs.Logging.{log, log_file}
use Rattle.pm_meaning.specs.Minds.{Mind}
use Rattle.pm_meaning.specs.Running.{fall_back, default_mailboxes}
use Rattle.pm_meaning.specs.Turns.{ActEnd, is_for_good, refuse_act}
use Rattle.pm_meaning.specs.declared.acted.Acted.{Acted}
use Rattle.pm_meaning.specs.declared.acted.Acted.TheVariants.{Failed}
use Rattle.pm_meaning.specs.declared.acted.Cause.TheVariants as cause
use Rattle.pm_meaning.specs.declared.process.Destination.{Destination}
use Rattle.pm_meaning.proofs.Beside.{WritesNothing, nothing_then}
use Rattle.pm_meaning.proofs.QuietLines.{quiet_if, quiet_log_to, quiet_say}

quiet_each : {R : Type 0} (p : Mind) (lines : List (List ℕ)) (next : R) → WritesNothing (say_each p lines next)
quiet_each p [] next = tt
quiet_each p (line ∷ lines) next = nothing_then (log line p) _ (quiet_log_to (log_file p) line) (λ done. quiet_each p lines next)

quiet_placed : (kind : FolderKind) (folder prefix piece : List ℕ) (p : Mind) (reply : Reply) → WritesNothing (placed_at kind folder prefix piece p reply)
quiet_placed kind folder prefix piece p (Now moment) = (tt, λ reply. tt)
quiet_placed kind folder prefix piece p other = tt

quiet_in_folder : (kind : FolderKind) (folder prefix piece : List ℕ) (p : Mind) → WritesNothing (in_folder kind folder prefix piece p)
quiet_in_folder kind folder prefix piece p = (tt, λ reply. quiet_placed kind folder prefix piece p reply)

quiet_in_plain : (flags : Flags) (folder : List ℕ) (p : Mind) → WritesNothing (in_plain flags folder p)
quiet_in_plain flags folder p = quiet_if (is_usable (plain_prefix p)) _ _ (quiet_in_folder Plain folder (plain_prefix p) (folder_piece flags p) p) tt

quiet_appended : (flags : Flags) (name : List ℕ) (stored p : Mind) (reply : Reply) → WritesNothing (appended_by flags name stored p reply)
quiet_appended flags name stored p IsFolder = quiet_in_plain flags name p
quiet_appended flags name stored p other = tt

quiet_file : (flags : Flags) (name piece : List ℕ) (stored p : Mind) → WritesNothing (to_file flags name piece stored p)
quiet_file flags name piece stored p = quiet_if (is_nothing name) _ _ tt (tt, λ reply. quiet_appended flags name stored p reply)

quiet_as : (kind : Option FolderKind) (flags : Flags) (name : List ℕ) (p : Mind) → WritesNothing (file_as kind flags name p)
quiet_as None flags name p =
    quiet_file flags (full_name p.base name) (mailbox_piece flags p) (stored_in name (file_size (full_name p.base name) flags p) p) p
quiet_as (Some kind) flags name p = quiet_in_folder kind (full_name p.base name) [] (folder_piece flags p) p

quiet_all : (flags : Flags) (destinations : List Destination) (p : Mind) → WritesNothing (file_all flags destinations p)
quiet_all flags [] p = tt
quiet_all flags (destination ∷ destinations) p =
    nothing_then (file_one flags destination p) _ (quiet_as destination.kind flags destination.name p)
    (λ filing. quiet_if (is_stored filing.filed) (file_all flags destinations filing.mind) (Ends filing) (quiet_all flags destinations filing.mind) tt)

quiet_under : (name : List ℕ) (flags : Flags) (destinations : List Destination) (p : Mind) (reply : Reply) → WritesNothing (under_lock name flags destinations p reply)
quiet_under name flags destinations p (Held sleeps forced) =
    nothing_then (file_all flags destinations (with_lock name p)) (give_back name forced) (quiet_all flags destinations (with_lock name p)) (λ filing. (tt, λ reply. tt))
quiet_under name flags destinations p other = tt

quiet_attempt : (lock : Option (List ℕ)) (flags : Flags) (destinations : List Destination) (p : Mind) → WritesNothing (attempt lock flags destinations p)
quiet_attempt None flags destinations p = nothing_then (file_all flags destinations p) _ (quiet_all flags destinations p) (λ filing. tt)
quiet_attempt (Some name) flags destinations p = (tt, λ reply. quiet_under name flags destinations p reply)

quiet_after : (flags : Flags) (text : List ℕ) (done : Attempted) → WritesNothing (after_attempt flags text done)
quiet_after flags text done =
    let q = settled done.attempt done.mind in
    quiet_each {R = ActEnd} q (attempt_lines text done.attempt ++ copy_lines (is_done done.attempt) flags q) (record { acted = attempt_acted flags done.attempt; mind = q })

quiet_filed : (flags : Flags) (lock : Option (List ℕ)) (text : List ℕ) (destinations : List Destination) (p : Mind) → WritesNothing (file_and_say flags lock text destinations p)
quiet_filed flags lock text destinations p =
    nothing_then (attempt lock flags destinations p) (after_attempt flags text) (quiet_attempt lock flags destinations p) (λ done. quiet_after flags text done)

quiet_at : (flags : Flags) (lock : Option (List ℕ)) (blamed text : List ℕ) (destinations : List Destination) (p : Mind) → WritesNothing (deliver_at flags lock blamed text destinations p)
quiet_at flags lock blamed text destinations p =
    quiet_if (is_taken lock (map (full_of p.base) destinations) p.locks) (refuse_act cause.NameIsLock blamed p) _ (quiet_say p _ _)
    (quiet_if (any_held (map (full_of p.base) destinations) p.locks) (refuse_act cause.NameIsLock text p) _ (quiet_say p _ _) (quiet_filed flags lock text destinations p))

quiet_named : (flags : Flags) (word : Option (List ℕ)) (blamed text : List ℕ) (words : List (List ℕ)) (p : Mind) → WritesNothing (deliver_named flags word blamed text words p)
quiet_named flags word blamed text words p =
    quiet_if (not (are_file_texts words)) (refuse_act cause.BadName text p) _ (quiet_say p _ _) (quiet_at flags (full_lock p.base word) blamed text (map destination_of words) p)

quiet_to : (flags : Flags) (lock : Option (List ℕ)) (value text : List ℕ) (words : List (List ℕ)) (p : Mind) → WritesNothing (deliver_to flags lock value text words p)
quiet_to flags lock value text words p =
    quiet_if (is_without words) (refuse_act cause.NoWords text p) _ (quiet_say p _ _)
    (quiet_if (not (is_lock_word (lock_word lock value words p))) (refuse_act cause.BadName (blamed_text lock text) p) _ (quiet_say p _ _)
    (quiet_named flags (lock_word lock value words p) (blamed_text lock text) text words p))

quiet_mailboxes : (mailboxes : List (List ℕ)) (last : Acted) (p : Mind) → WritesNothing (try_each mailboxes last p)
quiet_mailboxes [] last p = tt
quiet_mailboxes (mailbox ∷ mailboxes) last p =
    nothing_then (deliver_default mailbox p) _ (quiet_to no_flags (Some []) [] mailbox (mailbox ∷ []) p)
    (λ came. quiet_if (is_for_good came.acted) (Ends came) (try_each mailboxes came.acted came.mind) tt (quiet_mailboxes mailboxes came.acted came.mind))

-- the default mailboxes
pub quiet_fallback : (p : Mind) → WritesNothing (fall_back p)
quiet_fallback p = quiet_mailboxes (default_mailboxes p.vars) (Failed cause.NoName) p
