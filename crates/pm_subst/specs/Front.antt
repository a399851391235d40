-- What stands at the front of a text, by its first bytes and the rules in force.
use Rattle.std.specs.Prelude.{ℕ, zero, suc, ◌+◌, ◌-◌, ◌<◌, ◌≤◌, List, [], ◌∷◌, if◌then◌else◌, nat_eq, Bool, false, not, ◌&&◌, ◌||◌, min, length, drop, Option, Some, None}
use Rattle.pm_bytes.specs.Letter.{is_digit_byte, is_name_start, is_space_byte}
use Rattle.pm_subst.specs.Bytes.{plain_length, name_length, quote_length, command_length}
use Rattle.pm_bytes.specs.Alphabet.{BACKSLASH, DOLLAR, DOUBLE_QUOTE, SINGLE_QUOTE, OPEN_BRACE, CLOSE_BRACE, NEWLINE, HASH, COLON, MINUS, PLUS, BACKQUOTE, UNDERSCORE, QUESTION, EQUALS, ZERO}
use Rattle.pm_subst.specs.declared.kinds.Rule.{Rule}
use Rattle.pm_subst.specs.declared.kinds.Front.{Front}
use Rattle.pm_subst.specs.declared.kinds.Kind.{Kind}
use Rattle.pm_subst.specs.declared.kinds.Kind.TheVariants.{Text, Single, Space, QuotesOpen, QuotesClose, Join, Comment, Value, Literal, Parameter as OfParameter, Command, FormOpen, FormClose}
use Rattle.pm_subst.specs.declared.kinds.Test.TheVariants.{Unset, UnsetOrEmpty, Set, SetNotEmpty}
use Rattle.pm_subst.specs.declared.kinds.Parameter.{Parameter}
use Rattle.pm_subst.specs.declared.kinds.Parameter.TheVariants.{Program, Argument, ArgumentCount, Process, ExitCode, Score, Rcfile, LastFolder}

-- a front of this kind, with its bytes from one place to another, that takes so many
abbrev pub piece : Kind → ℕ → ℕ → ℕ → Front
piece kind first past taken = record { kind = kind; from = first; to = past; taken = taken }

-- a byte that stands for itself
abbrev pub itself : Front
itself = piece Text 0 1 1

-- inside double quotes a backslash before one of these gives the byte
abbrev pub is_escaped_in_quotes : ℕ → Bool
is_escaped_in_quotes byte = nat_eq byte DOLLAR || nat_eq byte BACKQUOTE || nat_eq byte DOUBLE_QUOTE || nat_eq byte BACKSLASH

-- after a backslash; one before a brace that would end a quoted form stays, and the brace doesn't end it
abbrev pub escaped : Rule → List ℕ → Front
escaped rule [] = itself
escaped rule (byte ∷ bytes) =
    if nat_eq byte NEWLINE then piece Join 0 0 2 else
    if not rule.quoted || is_escaped_in_quotes byte then piece Text 1 2 2 else
    if nat_eq byte CLOSE_BRACE && rule.ends_form then piece Text 0 2 2 else itself

-- after the name and the colon of a form in braces
abbrev pub colon_tail_of : ℕ → List ℕ → Front
colon_tail_of before [] = itself
colon_tail_of before (byte ∷ bytes) =
    if nat_eq byte MINUS then piece (FormOpen UnsetOrEmpty) 2 before (before + 2) else
    if nat_eq byte PLUS then piece (FormOpen SetNotEmpty) 2 before (before + 2) else itself

-- after the name of a form in braces, with the length of all before it
abbrev pub tail_of : ℕ → List ℕ → Front
tail_of before [] = piece Value 2 before before
tail_of before (byte ∷ bytes) =
    if nat_eq byte CLOSE_BRACE then piece Value 2 before (before + 1) else
    if nat_eq byte MINUS then piece (FormOpen Unset) 2 before (before + 1) else
    if nat_eq byte PLUS then piece (FormOpen Set) 2 before (before + 1) else
    if nat_eq byte COLON then colon_tail_of before bytes else itself

-- after the opening brace
abbrev pub braced : List ℕ → Front
braced [] = itself
braced (byte ∷ bytes) =
    if is_name_start byte then tail_of (name_length bytes + 3) (drop (name_length bytes) bytes) else itself

-- after a dollar and a backslash
abbrev pub literal_of : List ℕ → Front
literal_of [] = itself
literal_of (byte ∷ bytes) =
    if is_name_start byte then piece Literal 2 (name_length bytes + 3) (name_length bytes + 3) else itself

-- what a dollar and this byte stand for
abbrev pub parameter_of : ℕ → Option Parameter
parameter_of byte =
    if nat_eq byte ZERO then Some Program else
    if is_digit_byte byte then Some (Argument (byte - ZERO)) else
    if nat_eq byte HASH then Some ArgumentCount else
    if nat_eq byte DOLLAR then Some Process else
    if nat_eq byte QUESTION then Some ExitCode else
    if nat_eq byte EQUALS then Some Score else
    if nat_eq byte MINUS then Some LastFolder else None

-- a dollar and the byte of a parameter
abbrev pub parameter_front : Parameter → Front
parameter_front parameter = piece (OfParameter parameter) 1 2 2

-- where the byte is none of a parameter, the dollar stands for itself
abbrev pub parameter_or_itself : Option Parameter → Front
parameter_or_itself None = itself
parameter_or_itself (Some parameter) = parameter_front parameter

-- a name after a dollar; an underscore alone is the rcfile's name
abbrev pub name_front : ℕ → ℕ → Front
name_front byte length =
    if nat_eq byte UNDERSCORE && nat_eq length 0 then parameter_front Rcfile else piece Value 1 (length + 2) (length + 2)

-- after a dollar
abbrev pub form_of : Rule → List ℕ → Front
form_of rule [] = itself
form_of rule (byte ∷ bytes) =
    if nat_eq byte OPEN_BRACE && rule.may_open then braced bytes else
    if nat_eq byte BACKSLASH then literal_of bytes else
    if is_name_start byte then name_front byte (name_length bytes) else parameter_or_itself (parameter_of byte)

-- a double quote
abbrev pub quotes_of : Rule → Front
quotes_of rule =
    if not rule.quoted then piece QuotesOpen 0 0 1 else
    if rule.ends_quotes then piece QuotesClose 0 0 1 else itself

-- what is read so outside quotes alone
abbrev pub unquoted_front : Rule → List ℕ → Front
unquoted_front rule [] = itself
unquoted_front rule (byte ∷ bytes) =
    if nat_eq byte SINGLE_QUOTE then piece Single 1 (quote_length bytes + 1) (min (quote_length bytes + 2) (length bytes + 1)) else
    if nat_eq byte HASH && rule.may_end then piece Comment 0 0 (length bytes + 1) else
    if is_space_byte byte then piece Space 0 1 1 else itself

-- what stands at the front of a text under a rule
abbrev pub front_of : Rule → List ℕ → Front
front_of rule [] = itself
front_of rule (byte ∷ bytes) =
    if nat_eq byte BACKSLASH then escaped rule bytes else
    if nat_eq byte DOLLAR then form_of rule bytes else
    if nat_eq byte DOUBLE_QUOTE then quotes_of rule else
    if nat_eq byte BACKQUOTE then piece Command 1 (command_length false bytes + 1) (min (command_length false bytes + 2) (length bytes + 1)) else
    if nat_eq byte CLOSE_BRACE && rule.ends_form then piece FormClose 0 0 1 else
    if rule.quoted then itself else unquoted_front rule (byte ∷ bytes)

-- so many plain bytes at once, or a front where there are none
abbrev pub all_or : ℕ → Front → Front
all_or zero front = front
all_or (suc n) front = piece Text 0 (suc n) (suc n)

-- plain bytes at once, or what stands at the front
abbrev pub turn_of : Rule → List ℕ → Front
turn_of rule text = all_or (plain_length rule.quoted text) (front_of rule text)

-- a front takes something, and lies within a text of this length
pub record Within (front : Front) (length : ℕ) : Type 0 where
  pub some : 0 < front.taken
  pub taken : front.taken ≤ length
  pub ordered : front.from ≤ front.to
  pub past : front.to ≤ length
