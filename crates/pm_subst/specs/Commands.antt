-- The backquoted commands of a text.
use Rattle.std.specs.Prelude.{ℕ, List, [], ◌∷◌, ◌++◌, if◌then◌else◌, nat_eq, Bool, false, true, ◌||◌}
use Rattle.pm_bytes.specs.Alphabet.{BACKSLASH, BACKQUOTE}
use Rattle.pm_subst.specs.declared.kinds.Mode.{Mode}
use Rattle.pm_subst.specs.declared.kinds.Kind.{Kind}
use Rattle.pm_subst.specs.declared.kinds.Kind.TheVariants.{Command}
use Rattle.pm_subst.specs.Tokens.{Token, tokens}

-- a command's text, with the first byte after a backslash or not: one before a backquote or a backslash is dropped
abbrev pub command_text : Bool → List ℕ → List ℕ
command_text false [] = []
command_text true [] = BACKSLASH ∷ []
command_text false (byte ∷ bytes) = if nat_eq byte BACKSLASH then command_text true bytes else byte ∷ command_text false bytes
command_text true (byte ∷ bytes) =
    if nat_eq byte BACKQUOTE || nat_eq byte BACKSLASH then byte ∷ command_text false bytes else BACKSLASH ∷ byte ∷ command_text false bytes

-- the command of a token of this kind and text, if it is one
abbrev pub command_of : Kind → List ℕ → List (List ℕ)
command_of Command text = command_text false text ∷ []
command_of _ text = []

-- the commands of tokens from left to right, also those in texts that aren't used
abbrev pub commands_of : List Token → List (List ℕ)
commands_of [] = []
commands_of (token ∷ rest) = command_of token.kind token.text ++ commands_of rest

-- the commands of a text
abbrev pub commands_in : Mode → List ℕ → List (List ℕ)
commands_in mode text = commands_of (tokens mode 0 [] true text)
