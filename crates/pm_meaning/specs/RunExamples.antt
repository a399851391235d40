-- The status of a run, and how it goes from rcfile to rcfile, case by case (procmail(1), procmailrc(5)).
use Rattle.std.specs.Prelude.{ℕ, List, [], ◌∷◌, ◌≡◌, Some, None, true, false, codes}
use Rattle.pm_bytes.specs.declared.environment.Pair.{Pair}
use Rattle.pm_journal.specs.LogText.{too_many_rcfiles_line}
use Rattle.pm_journal.specs.Plan.{Ends, and_then, ask}
use Rattle.pm_journal.specs.Walking.{Go}
use Rattle.pm_journal.specs.declared.acts.Act.TheVariants.{ReadFile}
use Rattle.pm_recipe.specs.Tree.{Unset, cons, nil}
use Rattle.pm_meaning.specs.Assigning.{assigned}
use Rattle.pm_meaning.specs.Chains.{new_chain}
use Rattle.pm_meaning.specs.Changes.{opened, with_base, with_rcfile, with_variable}
use Rattle.pm_meaning.specs.Examples.{process, process_with, variable}
use Rattle.pm_meaning.specs.Minds.{Mind}
use Rattle.pm_meaning.specs.Turns.{GoesOn, say_then}
use Rattle.pm_meaning.specs.declared.process.End.TheVariants.{Delivered, FellOff, HostOff, NoRc}
use Rattle.pm_meaning.specs.Clones.{two_rcfiles}
use Rattle.pm_meaning.specs.Ends.{is_trapped}
use Rattle.pm_meaning.specs.Running.{BlockEnd, Do, FileEnd, Item, Opening, OpeningRule, Over, Running, after_read, ahead, behind_file, default_mailboxes, entered, left_by, locks_in_file, locks_of, named_rcfile, open_next, opening_of, rcfiles_of, set_by_word, unlocked, without_rcfile}
use Rattle.pm_meaning.specs.Status.{end_status, exit_status, status_number, with_exit_status}
use Rattle.pm_meaning.specs.declared.command_line.CommandLine.{CommandLine}
use Rattle.pm_meaning.specs.declared.status.Status.TheVariants.{CannotCreate, DataError, InputOutput, NoInput, Success, SystemError, TemporaryFailure, Usage}

-- a process with this EXITCODE, and with this TRAP too
abbrev pub with_exitcode : List ℕ → Mind
with_exitcode value = process_with (variable (codes "EXITCODE") value ∷ [])

abbrev pub with_trap : List ℕ → List ℕ → Mind
with_trap value program = process_with (variable (codes "EXITCODE") value ∷ variable (codes "TRAP") program ∷ [])

-- a process that has read no rcfile
abbrev pub at_start : Mind
at_start = record process { rcfile = [] }

-- a command line without rcfiles
abbrev pub no_rcfiles : CommandLine
no_rcfiles = record two_rcfiles { rcfiles = [] }

-- how named rcfiles are opened where no word sets MAILDIR
abbrev pub by_words : OpeningRule
by_words = record { is_implied = false; keeps_folder = false }

-- a word that sets a variable
abbrev pub pair : List ℕ → List ℕ → Pair
pair name value = record { name = name; value = value }

-- a statement in a block with the lock `k`, which is in an rcfile that another one included in a block with the lock `l`
abbrev pub items : List Item
items = Do (Unset (codes "A")) ∷ BlockEnd new_chain (Some (codes "k")) ∷ FileEnd (codes "rc") ∷ BlockEnd new_chain (Some (codes "l")) ∷ []

-- the exit status
pub record OfStatuses : Type 0 where
  -- the numbers of sysexits(3)
  pub success : status_number Success ≡ 0
  pub usage : status_number Usage ≡ 64
  pub data_error : status_number DataError ≡ 65
  pub no_input : status_number NoInput ≡ 66
  pub system_error : status_number SystemError ≡ 71
  pub cannot_create : status_number CannotCreate ≡ 73
  pub input_output : status_number InputOutput ≡ 74
  pub temporary_failure : status_number TemporaryFailure ≡ 75
  -- by the end of a process, under `-t` or without it
  pub delivered : end_status true Delivered ≡ Success
  pub fell_off : end_status false FellOff ≡ CannotCreate
  pub fell_off_softly : end_status true FellOff ≡ TemporaryFailure
  pub no_rcfile : end_status true NoRc ≡ NoInput
  pub other_host : end_status false HostOff ≡ Success
  -- where TRAP's program ended with 9: by the variables DELIVERED, EXITCODE and TRAP
  pub plain : exit_status FellOff 9 process ≡ 73
  pub softly : exit_status FellOff 9 (record process { fails_softly = true }) ≡ 75
  pub said_delivered : exit_status FellOff 9 (process_with (variable (codes "DELIVERED") (codes "yes") ∷ [])) ≡ 0
  pub said_otherwise : exit_status FellOff 9 (process_with (variable (codes "DELIVERED") (codes "on") ∷ [])) ≡ 73
  pub exitcode : exit_status Delivered 9 (with_exitcode (codes "75")) ≡ 75
  pub exitcode_255 : exit_status Delivered 9 (with_exitcode (codes "255")) ≡ 255
  pub exitcode_256 : exit_status Delivered 9 (with_exitcode (codes "256")) ≡ 0
  pub exitcode_0 : exit_status FellOff 9 (with_exitcode (codes "0")) ≡ 73
  pub exitcode_and_trap : exit_status FellOff 9 (with_trap (codes "67") (codes "x")) ≡ 67
  pub empty_and_trap : exit_status FellOff 9 (with_trap [] (codes "x")) ≡ 9
  pub empty_alone : exit_status FellOff 9 (with_trap [] []) ≡ 73
  pub without_rc : exit_status NoRc 9 (with_exitcode (codes "75")) ≡ 66
  -- TRAP's program finds the status so far in EXITCODE
  pub told : with_exit_status FellOff process ≡ with_exitcode (codes "73")
  pub stays : with_exit_status FellOff (with_exitcode (codes "x")) ≡ with_exitcode (codes "x")
  -- it runs at the end of the first process, where an rcfile was read
  pub trapped : is_trapped FellOff (with_trap [] (codes "x")) ≡ true
  pub no_trap : is_trapped FellOff (with_trap [] []) ≡ false
  pub no_trap_in_clones : is_trapped FellOff (record (with_trap [] (codes "x")) { is_clone = true }) ≡ false
  pub no_trap_without_rc : is_trapped NoRc (with_trap [] (codes "x")) ≡ false

-- rcfiles and default mailboxes
pub record OfRcfiles : Type 0 where
  -- the user's own, or those of the command line, seen from the home folder unless they begin with `/` or `./`
  pub own : rcfiles_of no_rcfiles (codes "/h") ≡ codes "/h/.procmailrc" ∷ []
  pub own_may_be_missing : opening_of no_rcfiles ≡ record { is_implied = true; keeps_folder = false }
  pub two : rcfiles_of two_rcfiles (codes "/h") ≡ codes "./rc" ∷ codes "./rc2" ∷ []
  pub at_home : named_rcfile false (codes "/h") (codes "rc") ≡ codes "/h/rc"
  pub from_root : named_rcfile false (codes "/h") (codes "/rc") ≡ codes "/rc"
  pub of_filter : named_rcfile true (codes "/h") (codes "rc") ≡ codes "rc"
  -- by one of the working folder, names are seen from that, unless a word set MAILDIR
  pub here : entered by_words (codes "./rc") at_start ≡ with_base (codes ".") (with_variable (codes "MAILDIR") (codes ".") (with_rcfile (codes "./rc") at_start))
  pub second_here : entered by_words (codes "./rc") process ≡ with_rcfile (codes "./rc") process
  pub elsewhere : entered by_words (codes "/rc") at_start ≡ with_rcfile (codes "/rc") at_start
  pub maildir_was_set : entered (opening_of (record two_rcfiles { values = pair (codes "MAILDIR") (codes "m") ∷ [] })) (codes "./rc") at_start ≡ with_rcfile (codes "./rc") at_start
  -- a word has the effect of an assignment, but names no rcfile and no host
  pub word : set_by_word (pair (codes "SHIFT") (codes "1")) process ≡ assigned (codes "SHIFT") (codes "1") process
  pub word_includerc : set_by_word (pair (codes "INCLUDERC") (codes "r")) process ≡ Ends (GoesOn process)
  pub word_switchrc : set_by_word (pair (codes "SWITCHRC") (codes "r")) process ≡ Ends (GoesOn process)
  pub word_host : set_by_word (pair (codes "HOST") (codes "m")) process ≡ Ends (GoesOn (with_variable (codes "HOST") (codes "m") process))
  -- a run opens 256 rcfiles
  pub rcfile_256 : open_next by_words (codes "r" ∷ []) (record process { openings = 255 })
      ≡ and_then (ask (ReadFile (codes "r"))) (after_read by_words (codes "r") [] (opened (record process { openings = 255 })))
  pub rcfile_257 : open_next by_words (codes "r" ∷ []) (record process { openings = 256 })
      ≡ say_then (record process { openings = 256 }) (too_many_rcfiles_line (codes "r")) (Go (Opening by_words [] (record process { openings = 256 })))
  -- without one that is left a process falls off its end, or is on another host
  pub none_read : without_rcfile at_start ≡ Running [] at_start
  pub none_left : without_rcfile process ≡ Over HostOff process
  pub next_of_other_host : left_by HostOff (record process { later = codes "r" ∷ [] }) ≡ Opening (record { is_implied = false; keeps_folder = true }) (codes "r" ∷ []) process
  -- what is left to do; a clone releases no lock of its parent
  pub statements : ahead (cons (Unset (codes "A")) nil) (FileEnd (codes "rc") ∷ []) ≡ Do (Unset (codes "A")) ∷ FileEnd (codes "rc") ∷ []
  pub all_locks : locks_of items ≡ Some (codes "k") ∷ Some (codes "l") ∷ []
  pub locks_of_file : locks_in_file items ≡ Some (codes "k") ∷ []
  pub after_file : behind_file items ≡ FileEnd (codes "rc") ∷ BlockEnd new_chain (Some (codes "l")) ∷ []
  pub in_clone : unlocked items ≡ Do (Unset (codes "A")) ∷ BlockEnd new_chain None ∷ FileEnd (codes "rc") ∷ BlockEnd new_chain None ∷ []
  -- DEFAULT, and then ORGMAIL where it is another
  pub both : default_mailboxes (process_with (variable (codes "DEFAULT") (codes "d") ∷ variable (codes "ORGMAIL") (codes "o") ∷ [])).vars ≡ codes "d" ∷ codes "o" ∷ []
  pub same : default_mailboxes (process_with (variable (codes "DEFAULT") (codes "d") ∷ variable (codes "ORGMAIL") (codes "d") ∷ [])).vars ≡ codes "d" ∷ []
  pub no_default : default_mailboxes (process_with (variable (codes "DEFAULT") [] ∷ variable (codes "ORGMAIL") (codes "o") ∷ [])).vars ≡ codes "o" ∷ []
  pub no_mailbox : default_mailboxes process.vars ≡ []
