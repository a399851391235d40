-- Forms of assignments (procmailrc(5), "Variables").
use Rattle.std.specs.Prelude.{ℕ, Bool, false, not, ◌||◌, ◌&&◌, List, [], ◌∷◌, nat_eq, codes}
use Rattle.std.specs.List.{starts_with}
use Rattle.std.specs.Str.{bytes_eq}
use Rattle.check_moving.specs.Ranges.{has_set}
use Rattle.check_moving.specs.Text.{has_part, without_quotes}
use Rattle.check_moving.specs.declared.form.Form.{Form}
use Rattle.check_moving.specs.declared.form.Form.TheVariants.{Search, Variable}
use Rattle.check_moving.specs.declared.form.SearchForm.TheVariants as search
use Rattle.check_moving.specs.declared.form.VariableForm.TheVariants as form

-- variables of 3.22 without an effect
abbrev pub is_idle : List ℕ → Bool
is_idle name =
    bytes_eq name (codes "LINEBUF") || bytes_eq name (codes "COMSAT") || bytes_eq name (codes "DROPPRIVS")
    || bytes_eq name (codes "NORESRETRY")

-- a status of 0
abbrev pub has_zero : List ℕ → List ℕ → Bool
has_zero name value = bytes_eq name (codes "EXITCODE") && bytes_eq (without_quotes value) (codes "0")

-- DELIVERED by another value than `yes` and `no`
abbrev pub delivers_otherwise : List ℕ → List ℕ → Bool
delivers_otherwise name value =
    bytes_eq name (codes "DELIVERED") && not (bytes_eq (without_quotes value) (codes ""))
    && not (bytes_eq (without_quotes value) (codes "yes")) && not (bytes_eq (without_quotes value) (codes "no"))

-- LOGABSTRACT by another value than `all` and `no`
abbrev pub logs_otherwise : List ℕ → List ℕ → Bool
logs_otherwise name value =
    bytes_eq name (codes "LOGABSTRACT") && not (bytes_eq (without_quotes value) (codes ""))
    && not (bytes_eq (without_quotes value) (codes "all")) && not (bytes_eq (without_quotes value) (codes "no"))

-- a program or an address
abbrev pub is_program : List ℕ → Bool
is_program value = starts_with nat_eq value (codes "|") || starts_with nat_eq value (codes "!")

-- the variables that name the last mailbox
abbrev pub is_mailbox : List ℕ → Bool
is_mailbox name = bytes_eq name (codes "DEFAULT") || bytes_eq name (codes "ORGMAIL")

-- one of them by a program or an address
abbrev pub names_program : List ℕ → List ℕ → Bool
names_program name value = is_mailbox name && is_program (without_quotes value)

-- a lock for the rest of the run
abbrev pub locks : List ℕ → List ℕ → Bool
locks name value = bytes_eq name (codes "LOCKFILE") && not (bytes_eq (without_quotes value) (codes ""))

-- a `${` that isn't closed
abbrev pub is_open : List ℕ → Bool
is_open value = has_part (codes "${") value && not (has_part (codes "}") value)

-- a set whose ranges mean something else, in a value that can be an expression
abbrev pub gives_set : List ℕ → List ℕ → Bool
gives_set name value = not (bytes_eq name (codes "LOG")) && not (has_part (codes "`") value) && has_set false value

-- the form of a value, and whether it has it
abbrev pub valued : List ℕ → List ℕ → List (Bool × Form)
valued name value = (gives_set name value, Search search.Range) ∷ []

-- the forms of an assignment, and whether it has them
abbrev pub assigned : List ℕ → List ℕ → List (Bool × Form)
assigned name value =
    (bytes_eq name (codes "UMASK"), Variable form.Umask)
    ∷ (bytes_eq name (codes "VERBOSE"), Variable form.Verbose)
    ∷ (bytes_eq name (codes "TIMEOUT"), Variable form.Timeout)
    ∷ (is_idle name, Variable form.NoEffect)
    ∷ (has_zero name value, Variable form.ExitCode)
    ∷ (delivers_otherwise name value, Variable form.Delivered)
    ∷ (logs_otherwise name value, Variable form.LogAbstract)
    ∷ (names_program name value, Variable form.DefaultProgram)
    ∷ (locks name value, Variable form.LockFile)
    ∷ (is_open value, Variable form.OpenBrace)
    ∷ []
