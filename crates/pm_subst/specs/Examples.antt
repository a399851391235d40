-- Texts and what they stand for, form by form.
use Rattle.std.specs.Prelude.{ℕ, ◌*◌, Bool, List, [], ◌∷◌, ◌≡◌, Option, Some, None, true, false, codes, neg_ℤ, pos, replicate}
use Rattle.std.specs.List.{filter, range_with_len}
use Rattle.pm_vars.specs.Variables.{Variable}
use Rattle.pm_vars.specs.Table.{Table}
use Rattle.pm_subst.specs.declared.kinds.Frame.TheVariants.{Quotes, Form}
use Rattle.pm_subst.specs.declared.kinds.Mode.TheVariants.{One, Quoted, Many}
use Rattle.pm_subst.specs.declared.kinds.Parameter.{Parameter}
use Rattle.pm_subst.specs.Bytes.{is_operator}
use Rattle.pm_subst.specs.Commands.{commands_in}
use Rattle.pm_subst.specs.Fields.{most_length}
use Rattle.pm_subst.specs.Front.{is_escaped_in_quotes, parameter_of}
use Rattle.pm_subst.specs.Tokens.{rule_of}
use Rattle.pm_subst.specs.Words.{words_in, size_in}

-- a variable of this name and value
abbrev pub variable : List ℕ → List ℕ → Variable
variable name value = record { name = name; value = value }

-- Two arguments and five variables: E is empty, O has all operators of expressions, and V is to be read once alone.
-- U is unset.
abbrev pub some : Table
some = record {
  variables = variable (codes "A") (codes "a.b c") ∷ variable (codes "E") [] ∷ variable (codes "O") (codes "^$.*+?|()[]\\a")
      ∷ variable (codes "V") (codes "$A \"# '") ∷ variable (codes "LASTFOLDER") (codes "mbox") ∷ [];
  arguments = codes "x" ∷ codes "y" ∷ [];
  marks = record { pid = 4242; code = 3; score = neg_ℤ (pos 7); rcfile = codes "rc" };
}

-- the words of a text without commands: as one word, as if inside double quotes, and as words
abbrev pub one : List ℕ → List (List ℕ)
one text = words_in One some [] text

abbrev pub quoted : List ℕ → List (List ℕ)
quoted text = words_in Quoted some [] text

abbrev pub many : List ℕ → List (List ℕ)
many text = words_in Many some [] text

-- the bytes that pass a test, and whether a byte after a dollar is a parameter
abbrev pub those : (ℕ → Bool) → List ℕ
those test = filter test (range_with_len 0 256)

abbrev pub is_there : Option Parameter → Bool
is_there None = false
is_there (Some parameter) = true

-- what holds of them
pub record Examples : Type 0 where
  -- a variable's value, read once; an unset one gives nothing, and a name goes as far as it can
  pub values : one (codes "$A|${A}_|$A_|$U|$A.b|${A") ≡ codes "a.b c|a.b c_|||a.b c.b|a.b c" ∷ []
  pub read_once : one (codes "$V") ≡ codes "$A \"# '" ∷ []
  -- parameters
  pub arguments : one (codes "$0|$1|$2|$3|$9|$#") ≡ codes "procmail|x|y|||2" ∷ []
  pub numbers : one (codes "$?|$=|$$") ≡ codes "3|-7|4242" ∷ []
  pub names : one (codes "$_|$-|$_A") ≡ codes "rc|mbox|" ∷ []
  -- a dollar before anything else stands for itself
  pub dollars : one (codes "$|$!|$%|${|${1}|${}|${A:x}|${A=x}|${A:") ≡ codes "$|$!|$%|${|${1}|${}|${A:x}|${A=x}|${A:" ∷ []
  pub all_parameters : those (λ b. is_there (parameter_of b)) ≡ codes "#$-0123456789=?"
  pub last_dollar : one (codes "a$") ≡ codes "a$" ∷ []
  -- a value that is unset, empty or set
  pub defaults : one (codes "${U-u}|${E-e}|${A-a}|${U:-u}|${E:-e}|${A:-a}") ≡ codes "u||a.b c|u|e|a.b c" ∷ []
  pub alternatives : one (codes "${U+u}|${E+e}|${A+a}|${U:+u}|${E:+e}|${A:+a}") ≡ codes "|e|a|||a" ∷ []
  pub nested : one (codes "${U-p${E:-q$E${A+r}}s}${A-t${U-u}v}${U+w${A+x}y}z") ≡ codes "pqrsa.b cz" ∷ []
  pub open_form : one (codes "${U-x") ≡ codes "x" ∷ []
  pub form_31 : (rule_of One (replicate 31 Form) true).may_open ≡ true
  pub form_32 : (rule_of One (replicate 32 Form) true).may_open ≡ false
  pub quotes_among_forms : (rule_of One (Quotes ∷ replicate 31 Form) true).may_open ≡ true
  -- a value as an expression that matches it alone
  pub expression : one (codes "$\\A|$\\E|$\\U|$\\O") ≡ codes "()a\\.b c|()|()|()\\^\\$\\.\\*\\+\\?\\|\\(\\)\\[\\]\\\\a" ∷ []
  pub all_operators : those is_operator ≡ codes "$()*+.?[\\]^|"
  pub no_expression : one (codes "$\\1 $\\") ≡ codes "$1 $\\" ∷ []
  -- a backslash outside quotes, and inside double quotes, where it is one only before `$`, `"`, `\` and a backquote
  pub escapes : one (codes "\\$A \\x \\\" \\' \\\\ \\` \\") ≡ codes "$A x \" ' \\ ` \\" ∷ []
  pub quoted_escapes : one (codes "\"\\$A \\x \\\" \\' \\\\ \\` \\") ≡ codes "$A \\x \" \\' \\ ` \\" ∷ []
  pub all_escaped : those is_escaped_in_quotes ≡ codes "\"$\\`"
  pub joined_lines : one (codes "a\\\nb\"c\\\nd\"") ≡ codes "abcd" ∷ []
  -- in single quotes nothing has a meaning, and in double quotes a single quote has none
  pub single_quotes : one (codes "'$A\\x`c`\"'\"'$E'\"") ≡ codes "$A\\x`c`\"''" ∷ []
  pub open_quotes : one (codes "\"a 'b") ≡ codes "a 'b" ∷ []
  pub open_single_quote : one (codes "'a \"b") ≡ codes "a \"b" ∷ []
  -- a closing brace ends a form unless it is quoted, and means nothing elsewhere
  pub braces : one (codes "}${U-a\\}b\"}\"'}'c}{}") ≡ codes "}a}b}}c{}" ∷ []
  pub quoted_braces : one (codes "\"}${U-a\\}b\"'c}\"") ≡ codes "}a\\}b\"'c" ∷ []
  -- as if inside double quotes
  pub as_if_quoted : quoted (codes "$A \"x\" 'y' \\\" \\x #\\\n z") ≡ codes "a.b c \"x\" 'y' \" \\x # z" ∷ []
  -- words end at blanks and newlines outside quotes, also at those of a value
  pub words : many (codes " a\tb\nc  d\\ e $A \"$A\" '$A' x\"y z\" ")
      ≡ codes "a" ∷ codes "b" ∷ codes "c" ∷ codes "d e" ∷ codes "a.b" ∷ codes "c" ∷ codes "a.b c" ∷ codes "$A" ∷ codes "xy z" ∷ []
  pub split_forms : many (codes "${A-u}|${U-p q}|$\\A") ≡ codes "a.b" ∷ codes "c|p" ∷ codes "q|()a\\.b" ∷ codes "c" ∷ []
  pub split_parameters : words_in Many (record some { arguments = codes "v w" ∷ [] }) [] (codes "$1 \"$1\"")
      ≡ codes "v" ∷ codes "w" ∷ codes "v w" ∷ []
  pub one_word : one (codes " a\tb\n ") ≡ codes " a\tb\n " ∷ []
  -- an empty word is one only in quotes
  pub empty_words : many (codes "\"\" '' $E \"$E\" $U x") ≡ [] ∷ [] ∷ [] ∷ codes "x" ∷ []
  pub no_word : many [] ≡ []
  pub one_empty_word : one [] ≡ [] ∷ []
  -- a `#` where a word could begin ends the text, if words are split
  pub comment : many (codes "x#y '#' \\# \\\n# $A") ≡ codes "x#y" ∷ codes "#" ∷ codes "#" ∷ []
  pub no_comment_after : many (codes "$A#b \"\"#d") ≡ codes "a.b" ∷ codes "c#b" ∷ codes "#d" ∷ []
  pub no_comment : one (codes "x # y") ≡ codes "x # y" ∷ []
  -- commands, also those of texts that aren't used; inside, a backslash goes only before a backquote or a backslash
  pub commands : commands_in One (codes "`d`'`x`'\"`y z`\"\\`${A-`u`}`a\\`b\\\\c\\d") ≡ codes "d" ∷ codes "y z" ∷ codes "u" ∷ codes "a`b\\c\\d" ∷ []
  pub last_backslash : commands_in Many (codes "`a\\") ≡ codes "a\\" ∷ []
  pub not_in_comments : commands_in Many (codes "`a` # `b`") ≡ codes "a" ∷ []
  -- outputs stand in the order of the commands, without the newlines at their end, and are not read again
  pub outputs : words_in One some (codes "p\nq\n\n" ∷ codes "no" ∷ codes "$A" ∷ []) (codes "<`d`>${A+}${U+`u`}`e`") ≡ codes "<p\nq>$A" ∷ []
  pub split_outputs : words_in Many some (codes "p q\n" ∷ codes "r s\n" ∷ []) (codes "`d`\"`e`\"") ≡ codes "p" ∷ codes "qr s" ∷ []
  pub split_at_spaces : words_in Many some (codes "p\tq\nr s\n" ∷ []) (codes "`d`") ≡ codes "p" ∷ codes "q" ∷ codes "r" ∷ codes "s" ∷ []
  pub blanks_stay : words_in One some (codes "\n p \t\n\n" ∷ []) (codes "`d`") ≡ codes "\n p \t" ∷ []
  pub no_output : words_in One some [] (codes "<`d`>") ≡ codes "<>" ∷ []
  -- the length: all bytes, and where words are split one more for each word
  pub length : size_in One some [] (codes "$A \"x\"") ≡ 7
  pub length_of_words : size_in Many some [] (codes "$A \"x\" ''") ≡ 9
  pub greatest_length : most_length ≡ 1024 * 1024
