-- Forms of what is expanded (procmailrc(5), "Substitution").
use Rattle.std.specs.Prelude.{ℕ, Bool, true, false, not, ◌||◌, ◌&&◌, List, [], ◌∷◌, drop, nat_eq, if◌then◌else◌, codes}
use Rattle.std.specs.List.{starts_with}
use Rattle.pm_bytes.specs.Alphabet.{BACKQUOTE, CLOSE_BRACE, DOLLAR}
use Rattle.pm_bytes.specs.Letter.{is_name_byte, is_name_start}
use Rattle.check_moving.specs.Quotes.{expands_in, quote_after}
use Rattle.check_moving.specs.Text.{behind_name}
use Rattle.check_moving.specs.declared.form.ExpandedForm.{ExpandedForm}
use Rattle.check_moving.specs.declared.form.ExpandedForm.TheVariants as form
use Rattle.check_moving.specs.declared.form.Form.{Form}
use Rattle.check_moving.specs.declared.form.Form.TheVariants.{Expanded}
use Rattle.check_moving.specs.declared.quotes.Quote.TheVariants.{Plain}
use Rattle.check_moving.specs.declared.quotes.Quote.{Quote}

-- the text goes on with bytes of a name
abbrev pub begins_with_name : List ℕ → Bool
begins_with_name [] = false
begins_with_name (byte ∷ rest) = is_name_byte byte

-- `%`, `#`, `=` or `?`, or one of the last two after a colon
abbrev pub after_name : List ℕ → Bool
after_name text =
    starts_with nat_eq text (codes "%") || starts_with nat_eq text (codes "#") || starts_with nat_eq text (codes "=")
    || starts_with nat_eq text (codes "?") || starts_with nat_eq text (codes ":=") || starts_with nat_eq text (codes ":?")

-- what stands after `${` where it isn't expanded: what begins no name, or one of these after the name
abbrev pub brace_form : List ℕ → Bool
brace_form [] = false
brace_form (byte ∷ rest) = if is_name_start byte then after_name (behind_name (byte ∷ rest)) else true

-- a backquote before a closing brace, and before another variable
abbrev pub command_first : List ℕ → Bool
command_first [] = false
command_first (byte ∷ rest) =
    if nat_eq byte BACKQUOTE then true
    else if nat_eq byte CLOSE_BRACE || nat_eq byte DOLLAR then false
    else command_first rest

-- `$@`
abbrev pub is_arguments : List ℕ → Bool
is_arguments text = starts_with nat_eq text (codes "$@")

-- `$_` before a name
abbrev pub is_underscore : List ℕ → Bool
is_underscore text = starts_with nat_eq text (codes "$_") && begins_with_name (drop 2 text)

-- a `${` that isn't expanded
abbrev pub is_brace : List ℕ → Bool
is_brace text = starts_with nat_eq text (codes "${") && brace_form (drop 2 text)

-- a command in `${`
abbrev pub is_command : List ℕ → Bool
is_command text = starts_with nat_eq text (codes "${") && command_first (behind_name (drop 2 text))

-- whether a form stands at the front of a text
abbrev pub stands : ExpandedForm → List ℕ → Bool
stands form.Arguments text = is_arguments text
stands form.Underscore text = is_underscore text
stands form.Brace text = is_brace text
stands form.Command text = is_command text
stands form.Score text = starts_with nat_eq text (codes "$=")

-- whether it stands where variables are expanded
abbrev pub has_mark : ExpandedForm → Quote → List ℕ → Bool
has_mark sought quote [] = false
has_mark sought quote (byte ∷ rest) = (expands_in quote && stands sought (byte ∷ rest)) || has_mark sought (quote_after quote byte) rest

-- a score where the last recipe has no weight
abbrev pub has_score : Bool → List ℕ → Bool
has_score weighted text = not weighted && has_mark form.Score Plain text

-- the forms of a text that is expanded, after a recipe with weights or without
abbrev pub expanded : Bool → List ℕ → List (Bool × Form)
expanded weighted text =
    (has_mark form.Arguments Plain text, Expanded form.Arguments)
    ∷ (has_mark form.Underscore Plain text, Expanded form.Underscore)
    ∷ (has_mark form.Brace Plain text, Expanded form.Brace)
    ∷ (has_mark form.Command Plain text, Expanded form.Command)
    ∷ (has_score weighted text, Expanded form.Score)
    ∷ []
