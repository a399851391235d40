-- Worked rows: exit statuses, and the rcfiles that the command line names.
use Rattle.std.proofs.Common.{◌≡◌, ℕ, Bool, true, false, List, [], ◌∷◌, Some, refl}
use Rattle.std.specs.Prelude.{codes, decimal}
use Rattle.pm_vars.specs.Variables.{Variable, value_of}
use Rattle.pm_meaning.specs.FirstValues.{variable}
use Rattle.pm_meaning.specs.Minds.{Mind}
use Rattle.pm_meaning.specs.declared.process.End.TheVariants.{Delivered, FellOff, NoRc, HostOff}
use Rattle.pm_meaning.specs.Running.{rcfiles_of}
use Rattle.pm_meaning.specs.Status.{exit_status, with_exit_status}
use Rattle.pm_meaning.specs.declared.command_line.CommandLine.{CommandLine}

-- a process with these variables alone, with `-t` or without
abbrev with_only : Bool → List Variable → Mind → Mind
with_only softly variables p = record p { fails_softly = softly; vars = record p.vars { variables = variables } }

abbrev with_code : List ℕ → Mind → Mind
with_code value p = with_only false (variable (codes "EXITCODE") value ∷ []) p

code_row : (trapped : ℕ) (p : Mind) → exit_status FellOff trapped (with_code (codes "67") p) ≡ 67
code_row trapped p = refl

-- a delivered mail has it too
delivered_code_row : (trapped : ℕ) (p : Mind) → exit_status Delivered trapped (with_code (codes "67") p) ≡ 67
delivered_code_row trapped p = refl

greatest_code_row : (trapped : ℕ) (p : Mind) → exit_status Delivered trapped (with_code (codes "255") p) ≡ 255
greatest_code_row trapped p = refl

-- a mail that was delivered
delivered_row : (trapped : ℕ) (p : Mind) → exit_status Delivered trapped (with_only false [] p) ≡ 0
delivered_row trapped p = refl

delivered_softly_row : (trapped : ℕ) (p : Mind) → exit_status Delivered trapped (with_only true [] p) ≡ 0
delivered_softly_row trapped p = refl

delivered_zero_row : (trapped : ℕ) (p : Mind) → exit_status Delivered trapped (with_code (codes "0") p) ≡ 0
delivered_zero_row trapped p = refl

delivered_untrapped_row : (trapped : ℕ) (p : Mind) → exit_status Delivered trapped (with_code [] p) ≡ 0
delivered_untrapped_row trapped p = refl

-- what is no code of a failure leaves the status so far
zero_row : (trapped : ℕ) (p : Mind) → exit_status FellOff trapped (with_code (codes "0") p) ≡ 73
zero_row trapped p = refl

great_row : (trapped : ℕ) (p : Mind) → exit_status FellOff trapped (with_code (codes "256") p) ≡ 73
great_row trapped p = refl

letter_row : (trapped : ℕ) (p : Mind) → exit_status FellOff trapped (with_code (codes "x") p) ≡ 73
letter_row trapped p = refl

unset_row : (trapped : ℕ) (p : Mind) → exit_status FellOff trapped (with_only false [] p) ≡ 73
unset_row trapped p = refl

-- an EXITCODE that is set and empty leaves it to TRAP's program
trapped_row : (trapped : ℕ) (p : Mind)
    → exit_status FellOff trapped (with_only false (variable (codes "TRAP") (codes "exit 3") ∷ variable (codes "EXITCODE") [] ∷ []) p) ≡ trapped
trapped_row trapped p = refl

delivered_trapped_row : (trapped : ℕ) (p : Mind)
    → exit_status Delivered trapped (with_only false (variable (codes "TRAP") (codes "exit 3") ∷ variable (codes "EXITCODE") [] ∷ []) p) ≡ trapped
delivered_trapped_row trapped p = refl

untrapped_row : (trapped : ℕ) (p : Mind) → exit_status FellOff trapped (with_code [] p) ≡ 73
untrapped_row trapped p = refl

empty_trap_row : (trapped : ℕ) (p : Mind) → exit_status FellOff trapped (with_only false (variable (codes "TRAP") [] ∷ variable (codes "EXITCODE") [] ∷ []) p) ≡ 73
empty_trap_row trapped p = refl

-- TRAP's program has no say where EXITCODE isn't set
unset_trapped_row : (trapped : ℕ) (p : Mind) → exit_status Delivered trapped (with_only false (variable (codes "TRAP") (codes "exit 3") ∷ []) p) ≡ 0
unset_trapped_row trapped p = refl

-- nor where that is a number
numbered_row : (trapped : ℕ) (p : Mind)
    → exit_status FellOff trapped (with_only false (variable (codes "TRAP") (codes "exit 3") ∷ variable (codes "EXITCODE") (codes "67") ∷ []) p) ≡ 67
numbered_row trapped p = refl

-- the program of TRAP finds the status so far in EXITCODE, unless that is set
found_row : (p : Mind) → value_of (codes "EXITCODE") (with_exit_status FellOff (with_only false [] p)).vars.variables ≡ Some (decimal 73)
found_row p = refl

found_softly_row : (p : Mind) → value_of (codes "EXITCODE") (with_exit_status FellOff (with_only true [] p)).vars.variables ≡ Some (decimal 75)
found_softly_row p = refl

found_delivered_row : (p : Mind) → value_of (codes "EXITCODE") (with_exit_status Delivered (with_only false [] p)).vars.variables ≡ Some (decimal 0)
found_delivered_row p = refl

found_set_row : (p : Mind) → value_of (codes "EXITCODE") (with_exit_status FellOff (with_code (codes "67") p)).vars.variables ≡ Some (codes "67")
found_set_row p = refl

-- the mail counts as delivered
counted_row : (trapped : ℕ) (p : Mind) → exit_status FellOff trapped (with_only false (variable (codes "DELIVERED") (codes "yes") ∷ []) p) ≡ 0
counted_row trapped p = refl

uncounted_row : (trapped : ℕ) (p : Mind) → exit_status FellOff trapped (with_only false (variable (codes "DELIVERED") (codes "no") ∷ []) p) ≡ 73
uncounted_row trapped p = refl

-- EXITCODE goes before DELIVERED
counted_code_row : (trapped : ℕ) (p : Mind)
    → exit_status FellOff trapped (with_only false (variable (codes "DELIVERED") (codes "yes") ∷ variable (codes "EXITCODE") (codes "67") ∷ []) p) ≡ 67
counted_code_row trapped p = refl

counted_softly_row : (trapped : ℕ) (p : Mind) → exit_status FellOff trapped (with_only true (variable (codes "DELIVERED") (codes "yes") ∷ []) p) ≡ 0
counted_softly_row trapped p = refl

-- under `-t` it shall be tried again later
softly_row : (trapped : ℕ) (p : Mind) → exit_status FellOff trapped (with_only true [] p) ≡ 75
softly_row trapped p = refl

host_row : (trapped : ℕ) (p : Mind) → exit_status HostOff trapped (with_only false [] p) ≡ 0
host_row trapped p = refl

host_code_row : (trapped : ℕ) (p : Mind) → exit_status HostOff trapped (with_code (codes "67") p) ≡ 67
host_code_row trapped p = refl

-- without its rcfile a mail filter has its own status
no_rcfile_row : (trapped : ℕ) (p : Mind) → exit_status NoRc trapped (with_code (codes "67") p) ≡ 66
no_rcfile_row trapped p = refl

-- a command line that names these rcfiles, with `-m` or without
abbrev naming : Bool → List (List ℕ) → CommandLine → CommandLine
naming filter rcfiles line = record line { filter = filter; rcfiles = rcfiles }

own_row : (line : CommandLine) → rcfiles_of (naming false [] line) (codes "/home/joe") ≡ codes "/home/joe/.procmailrc" ∷ []
own_row line = refl

home_row : (line : CommandLine) → rcfiles_of (naming false (codes "rc" ∷ []) line) (codes "/home/joe") ≡ codes "/home/joe/rc" ∷ []
home_row line = refl

root_row : (line : CommandLine) (home : List ℕ) → rcfiles_of (naming false (codes "/etc/rc" ∷ []) line) home ≡ codes "/etc/rc" ∷ []
root_row line home = refl

here_row : (line : CommandLine) (home : List ℕ) → rcfiles_of (naming false (codes "./rc" ∷ []) line) home ≡ codes "./rc" ∷ []
here_row line home = refl

-- they are tried in order
order_row : (line : CommandLine) → rcfiles_of (naming false (codes "./one" ∷ codes "two" ∷ []) line) (codes "/home/joe") ≡ codes "./one" ∷ codes "/home/joe/two" ∷ []
order_row line = refl

-- a mail filter's rcfiles are named as they are
filter_row : (line : CommandLine) (home : List ℕ) → rcfiles_of (naming true (codes "rc" ∷ []) line) home ≡ codes "rc" ∷ []
filter_row line home = refl
