-- The forms of an rcfile, span for span.
use Rattle.std.specs.Prelude.{◌≡◌, ℕ, Bool, not, ◌||◌, ◌&&◌, List, [], ◌∷◌, ◌++◌, nat_eq, codes, if◌then◌else◌, Option, Some, None}
use Rattle.std.specs.List.{starts_with}
use Rattle.std.specs.Str.{bytes_eq}
use Rattle.pm_recipe.specs.Colon.{lock_of}
use Rattle.pm_recipe.specs.Cuts.{AreSpans}
use Rattle.pm_recipe.specs.Weights.{condition_of}
use Rattle.pm_recipe.specs.declared.fronts.Kind.{Kind}
use Rattle.pm_recipe.specs.declared.fronts.Kind.TheVariants as kind
use Rattle.pm_recipe.specs.declared.spans.Span.{Span}
use Rattle.pm_recipe.specs.declared.tree.Condition.{Condition}
use Rattle.pm_recipe.specs.declared.tree.Weight.{Weight}
use Rattle.check_moving.specs.Calls.{calls_in}
use Rattle.check_moving.specs.Conditions.{conditioned}
use Rattle.check_moving.specs.Expanded.{expanded}
use Rattle.check_moving.specs.Kept.{kept}
use Rattle.check_moving.specs.Leads.{Front, front_of}
use Rattle.check_moving.specs.Mailboxes.{filed_by}
use Rattle.check_moving.specs.Names.{names_after}
use Rattle.check_moving.specs.Recipes.{begun, opened, sent}
use Rattle.check_moving.specs.Searches.{searched_by}
use Rattle.check_moving.specs.Standing.{begin, after, names_maildir}
use Rattle.check_moving.specs.Text.{has_part}
use Rattle.check_moving.specs.Variables.{assigned, valued}
use Rattle.check_moving.specs.Words.{words_of}
use Rattle.check_moving.specs.declared.finding.Finding.{Finding}
use Rattle.check_moving.specs.declared.form.Form.{Form}
use Rattle.check_moving.specs.declared.form.Form.TheVariants.{Mailbox, Program, Variable}
use Rattle.check_moving.specs.declared.form.MailboxForm.TheVariants as mailbox
use Rattle.check_moving.specs.declared.form.ProgramForm.TheVariants as program
use Rattle.check_moving.specs.declared.form.VariableForm.TheVariants as variable
use Rattle.check_moving.specs.declared.standing.Standing.{Standing}

-- DEFAULT or ORGMAIL is the first maildir
abbrev pub is_default_maildir : Bool → List ℕ → List ℕ → Bool
is_default_maildir told name value = not told && names_maildir name value

-- the reasons for the forms of an assignment that depend on what is before it
abbrev pub defaulted : Bool → List ℕ → List ℕ → List (Bool × Form)
defaulted told name value = (is_default_maildir told name value, Mailbox mailbox.FromLine) ∷ []

-- the forms of an assignment
abbrev pub of_assign : Standing → List ℕ → List ℕ → List Form
of_assign standing name value =
    kept (assigned name value) ++ kept (valued name value) ++ kept (defaulted standing.told name value) ++ kept (expanded standing.weighted value)
    ++ calls_in [] (words_of value)

-- HOST alone
abbrev pub unset : List ℕ → List (Bool × Form)
unset name = (bytes_eq name (codes "HOST"), Variable variable.Host) ∷ []

-- what of an expression is expanded
abbrev pub expanded_in : Front → List ℕ
expanded_in front = if front.expands then front.text else []

-- the line of a program
abbrev pub program_in : Front → List ℕ
program_in front = if starts_with nat_eq front.text (codes "?") then front.text else []

-- the forms of a condition's text, weight and front, where the variables of these names begin with an anchor
abbrev pub of_front : Standing → List (List ℕ) → List ℕ → Weight → Front → List Form
of_front standing names text worth front =
    kept (conditioned standing.greatest text worth front) ++ searched_by names worth front
    ++ kept (expanded standing.weighted (expanded_in front)) ++ calls_in [] (words_of (program_in front))

-- of a condition that was read
abbrev pub of_read : Standing → List (List ℕ) → List ℕ → Condition → List Form
of_read standing names text condition = of_front standing names text condition.weight (front_of condition.text)

-- standard error that is sent to procmail's own
abbrev pub is_standard_error : List ℕ → Bool
is_standard_error text = has_part (codes ">&2") text && not (has_part (codes "2>") text)

-- the reasons for the forms of a program's line
abbrev pub programmed : List ℕ → List (Bool × Form)
programmed text = (is_standard_error text, Program program.StandardError) ∷ []

-- a byte by which the shell gets a line, so that procmail doesn't expand it
abbrev pub has_shell_byte : List ℕ → Bool
has_shell_byte text =
    has_part (codes "|") text || has_part (codes "&") text || has_part (codes ";") text || has_part (codes "<") text
    || has_part (codes ">") text || has_part (codes "~") text || has_part (codes "?") text || has_part (codes "*") text
    || has_part (codes "[") text

-- what of a program's line is expanded
abbrev pub expanded_line : List ℕ → List ℕ
expanded_line text = if has_shell_byte text then [] else text

-- the lock file of a recipe, or else of LOCKFILE
abbrev pub lock_held : Option (List ℕ) → List ℕ → List ℕ
lock_held None held = held
lock_held (Some lock) held = if bytes_eq lock (codes "") then held else lock

-- the forms of a program's line
abbrev pub of_program : Standing → List ℕ → List Form
of_program standing text =
    kept (programmed text) ++ kept (expanded standing.weighted (expanded_line text))
    ++ calls_in (lock_held (lock_of standing.colon) standing.held) (words_of text)

-- of a program that gets the mail
abbrev pub of_pipe : Standing → List ℕ → List Form
of_pipe standing text = kept (sent standing.colon) ++ of_program standing text

-- the forms of a forward's line
abbrev pub of_forward : Standing → List ℕ → List Form
of_forward standing text = kept (sent standing.colon) ++ kept (expanded standing.weighted (expanded_line text))

-- the forms of a mailbox's line
abbrev pub of_mailbox : Standing → List ℕ → List Form
of_mailbox standing text = kept (filed_by standing.colon standing.told text) ++ kept (expanded standing.weighted text)

-- the forms of a colon line
abbrev pub of_colon : Standing → List ℕ → List Form
of_colon standing text = kept (begun standing.fresh standing.closed standing.unwatched standing.held text)

-- the forms of a span of this kind
abbrev pub of_kind : Standing → List (List ℕ) → Kind → List ℕ → List ℕ → List Form
of_kind standing names kind.Colon name text = of_colon standing text
of_kind standing names kind.Condition name text = of_read standing names text (condition_of text)
of_kind standing names kind.Open name text = kept (opened standing.colon)
of_kind standing names kind.Assign name text = of_assign standing name text
of_kind standing names kind.Unset name text = kept (unset name)
of_kind standing names kind.Mailbox name text = of_mailbox standing text
of_kind standing names kind.Pipe name text = of_pipe standing text
of_kind standing names kind.Capture name text = of_program standing text
of_kind standing names kind.Forward name text = of_forward standing text
of_kind standing names _ name text = []

-- the forms of a span
abbrev pub of_span : Standing → List (List ℕ) → Span → List Form
of_span standing names span = of_kind standing names span.kind span.name.now span.text.now

-- forms as findings at a span
abbrev pub at_span : Span → List Form → List Finding
at_span span [] = []
at_span span (form ∷ forms) = (record { form = form; line = span.line; first = span.first }) ∷ at_span span forms

-- the findings of spans, one after the other
abbrev pub found_from : Standing → List (List ℕ) → List Span → List Finding
found_from standing names [] = []
found_from standing names (span ∷ spans) =
    at_span span (of_span standing names span) ++ found_from (after span standing) (names_after span names) spans

-- the findings of a text: those of its spans
pub record AreForms (text : List ℕ) (findings : List Finding) : Type 0 where
  pub spans : List Span
  pub cut : AreSpans text spans
  pub found : findings ≡ found_from (begin spans) [] spans
