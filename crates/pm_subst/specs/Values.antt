-- What variables, parameters, commands and forms give.
use Rattle.std.specs.Prelude.{ℕ, List, [], ◌∷◌, if◌then◌else◌, nat_eq, Bool, false, true, not, ◌&&◌, Option, Some, None, length, map, flat_map, decimal, codes}
use Rattle.std.specs.Fmt.{signed_decimal}
use Rattle.pm_vars.specs.Variables.{value_of, argument_of}
use Rattle.pm_vars.specs.Table.{Table}
use Rattle.pm_bytes.specs.Alphabet.{BACKSLASH, NEWLINE, OPEN_PARENTHESIS, CLOSE_PARENTHESIS}
use Rattle.pm_subst.specs.declared.kinds.Kind.{Kind}
use Rattle.pm_subst.specs.declared.kinds.Kind.TheVariants.{Text, Single, Space, QuotesOpen, Value, Literal, Parameter as OfParameter, Command, FormOpen}
use Rattle.pm_subst.specs.declared.kinds.Test.{Test}
use Rattle.pm_subst.specs.declared.kinds.Test.TheVariants.{Unset, UnsetOrEmpty, Set, SetNotEmpty}
use Rattle.pm_subst.specs.declared.kinds.Parameter.{Parameter}
use Rattle.pm_subst.specs.declared.kinds.Parameter.TheVariants.{Program, Argument, ArgumentCount, Process, ExitCode, Score, Rcfile, LastFolder}
use Rattle.pm_bytes.specs.Letter.{is_space_byte}
use Rattle.pm_subst.specs.Bytes.{is_operator}
use Rattle.pm_subst.specs.Fields.{Element, Byte, Blank, Quote}
use Rattle.pm_subst.specs.Tokens.{Token}

-- a value, empty where there is none
abbrev pub or_empty : Option (List ℕ) → List ℕ
or_empty None = []
or_empty (Some value) = value

-- a variable's value, empty where it is unset
abbrev pub variable_value : Table → List ℕ → List ℕ
variable_value table name = or_empty (value_of name table.variables)

-- the text of a parameter
abbrev pub parameter_value : Table → Parameter → List ℕ
parameter_value table Program = codes "procmail"
parameter_value table (Argument number) = or_empty (argument_of number table.arguments)
parameter_value table ArgumentCount = decimal (length table.arguments)
parameter_value table Process = decimal table.marks.pid
parameter_value table ExitCode = decimal table.marks.code
parameter_value table Score = signed_decimal table.marks.score
parameter_value table Rcfile = table.marks.rcfile
parameter_value table LastFolder = variable_value table (codes "LASTFOLDER")

-- an operator of expressions with a backslash before it
abbrev pub escaped_operator : ℕ → List ℕ
escaped_operator byte = if is_operator byte then BACKSLASH ∷ byte ∷ [] else byte ∷ []

-- a value as an expression that matches it alone, with an empty group in front
abbrev pub literal : List ℕ → List ℕ
literal value = OPEN_PARENTHESIS ∷ CLOSE_PARENTHESIS ∷ flat_map escaped_operator value

-- whether there is no byte
abbrev pub is_empty : List ℕ → Bool
is_empty [] = true
is_empty (byte ∷ bytes) = false

-- without the newlines at the end
abbrev pub trimmed : List ℕ → List ℕ
trimmed [] = []
trimmed (byte ∷ bytes) = if nat_eq byte NEWLINE && is_empty (trimmed bytes) then [] else byte ∷ trimmed bytes

-- whether there is no value
abbrev pub is_unset : Option (List ℕ) → Bool
is_unset None = true
is_unset (Some value) = false

-- whether there is no value or an empty one
abbrev pub is_unset_or_empty : Option (List ℕ) → Bool
is_unset_or_empty None = true
is_unset_or_empty (Some value) = is_empty value

-- whether the text of a form is used
abbrev pub uses_text : Test → Option (List ℕ) → Bool
uses_text Unset value = is_unset value
uses_text UnsetOrEmpty value = is_unset_or_empty value
uses_text Set value = not (is_unset value)
uses_text SetNotEmpty value = not (is_unset_or_empty value)

-- whether a form whose text isn't used gives the value
abbrev pub gives_value : Test → Bool
gives_value Unset = true
gives_value UnsetOrEmpty = true
gives_value _ = false

-- what a form gives beside its text
abbrev pub form_value : Test → Option (List ℕ) → List ℕ
form_value test value = if gives_value test && not (uses_text test value) then or_empty value else []

-- a byte of a value: outside quotes a blank or a newline may split
abbrev pub value_element : Bool → ℕ → Element
value_element quoted byte = if not quoted && is_space_byte byte then Blank byte else Byte byte

-- the bytes of a value
abbrev pub value_elements : Bool → List ℕ → List Element
value_elements quoted value = map (value_element quoted) value

-- what a token of this kind gives; the output is that of its command
abbrev pub elements_of : Table → List ℕ → Token → Kind → List Element
elements_of table output token Text = map Byte token.text
elements_of table output token Single = Quote ∷ map Byte token.text
elements_of table output token Space = map Blank token.text
elements_of table output token QuotesOpen = Quote ∷ []
elements_of table output token Value = value_elements token.quoted (variable_value table token.text)
elements_of table output token Literal = value_elements token.quoted (literal (variable_value table token.text))
elements_of table output token (OfParameter parameter) = value_elements token.quoted (parameter_value table parameter)
elements_of table output token Command = value_elements token.quoted (trimmed output)
elements_of table output token (FormOpen test) = value_elements token.quoted (form_value test (value_of token.text table.variables))
elements_of table output token _ = []
