-- Values that are told and skipped, and variables that are set.
use Rattle.std.proofs.Common.{◌≡◌, List, ℕ, sym, ap, ◌∙◌, subst}
use Rattle.pm_journal.specs.JournalState.{JournalState}
use Rattle.pm_journal.specs.Entries.{View}
use Rattle.pm_journal.specs.LogText.{value_too_long_line}
use Rattle.pm_journal.specs.Executed.{Executes}
use Rattle.pm_vars.specs.Table.{Table}
use Rattle.pm_vars.specs.Variables.{with_value}
use Rattle.pm_meaning.specs.Changes.{with_variable, overflowed}
use Rattle.pm_meaning.specs.Logging.{log, logged}
use Rattle.pm_meaning.specs.Minds.{Mind}
use Rattle.pm_meaning.specs.Turns.{GoesOn, say_then}
use Rattle.pm_meaning.proofs.Choices.{line_told}

-- a variable that was set
pub set_then : (name value : List ℕ) (p : Mind) (vars : Table) → vars ≡ record p.vars { variables = with_value name value p.vars.variables } → record p { vars = vars } ≡ with_variable name value p
set_then name value p vars e = ap (λ v. record p { vars = v }) e

pub set_copy : (name value copy : List ℕ) (p : Mind) (vars : Table) → copy ≡ value → vars ≡ record p.vars { variables = with_value name copy p.vars.variables } → record p { vars = vars } ≡ with_variable name value p
set_copy name value copy p vars same e = set_then name copy p vars e ∙ ap (λ v. with_variable name v p) same

pub skip_told : (length : ℕ) (line : List ℕ) (p q : Mind) (x y : JournalState) (a b : View) → line ≡ value_too_long_line length → q ≡ overflowed p → Executes (log line p) logged x y a b
    → Executes (say_then p (value_too_long_line length) (GoesOn (overflowed p))) (GoesOn q) x y a b
skip_told length line p q x y a b is same h =
    subst (λ r. Executes (say_then p (value_too_long_line length) (GoesOn (overflowed p))) (GoesOn r) x y a b) (sym same) (line_told p (value_too_long_line length) line (GoesOn (overflowed p)) x y a b is h)
