-- procmail's words with another rcfile.
use Rattle.std.specs.Prelude.{ℕ, ◌-◌, Bool, ◌==◌, cond, List, [], ◌∷◌, ◌++◌, take, length, map, flat_map, codes, nat_eq, if◌then◌else◌}
use Rattle.std.specs.List.{starts_with}
use Rattle.pm_bytes.specs.declared.environment.Pair.{Pair}
use Rattle.pm_message.specs.declared.renewal.Renew.{Renew}
use Rattle.pm_message.specs.declared.renewal.Renew.TheVariants.{Keep, AddMissing, Sender, Date}
use Rattle.pm_meaning.specs.declared.command_line.CommandLine.{CommandLine}

-- a word, if it is wanted
abbrev pub word_if : Bool → List ℕ → List (List ℕ)
word_if wanted word = cond wanted (word ∷ []) []

-- the words that ask for a line From of this kind
abbrev pub renewal_words : Renew → List (List ℕ)
renewal_words Keep = []
renewal_words AddMissing = []
renewal_words (Sender who) = codes "-f" ∷ who ∷ []
renewal_words Date = codes "-f" ∷ codes "-" ∷ []

-- those that give an argument
abbrev pub argument_words : List ℕ → List (List ℕ)
argument_words argument = codes "-a" ∷ argument ∷ []

-- the one that sets a variable
abbrev pub value_word : Pair → List ℕ
value_word pair = pair.name ++ codes "=" ++ pair.value

-- the variables by which a journal tells each delivery: an abstract of each, and a program at the end
unfoldable pub telling_words : List (List ℕ)
telling_words = codes "LOGABSTRACT=all" ∷ codes "TRAP=procmail-explain" ∷ []

-- the words of the options, arguments and variables; those that tell come first, so the others can set them again
abbrev pub option_words : CommandLine → List (List ℕ)
option_words line =
    word_if line.filter (codes "-m") ++ word_if line.fails_softly (codes "-t") ++ renewal_words line.renew
    ++ flat_map argument_words line.arguments ++ codes "--" ∷ telling_words ++ map value_word line.values

-- the words of a command line, by which a journal tells each delivery
abbrev pub words_of : CommandLine → List (List ℕ)
words_of line = option_words line ++ line.rcfiles

-- the rcfiles but for the last
abbrev pub earlier : List (List ℕ) → List (List ℕ)
earlier rcfiles = take (length rcfiles - 1) rcfiles

-- the last of these, or else this one
abbrev pub last_of : List (List ℕ) → List ℕ → List ℕ
last_of [] found = found
last_of (rcfile ∷ more) found = last_of more rcfile

-- the last rcfile, or the user's own where none is named
abbrev pub last_rcfile : List (List ℕ) → List ℕ
last_rcfile rcfiles = last_of rcfiles (codes ".procmailrc")

-- for each slash a step up: as many as lead from a folder of this name to the root, where further ones stay
abbrev pub steps_up : List ℕ → List ℕ
steps_up folder = flat_map (λ byte. if byte == 47 then codes "../" else []) folder

-- a name as seen from this folder, which is the current one
abbrev pub seen_from_here : List ℕ → List ℕ → List ℕ
seen_from_here folder name = codes "./" ++ cond (starts_with nat_eq name (codes "/")) (steps_up folder) [] ++ name

-- its full name
abbrev pub full_name : List ℕ → List ℕ → List ℕ
full_name folder name = if starts_with nat_eq name (codes "/") then name else folder ++ codes "/" ++ name

-- The word that names an rcfile in the place of another. Without `-m` a run begins in the current folder where the rcfile's name
-- begins with `./`, and in the home folder otherwise; so the name is spelled as the other's.
abbrev pub word_beside : List ℕ → List ℕ → List ℕ → List ℕ
word_beside other folder name = if starts_with nat_eq other (codes "./") then seen_from_here folder name else full_name folder name

-- the words with this rcfile, seen from the current folder, in the place of the last one
abbrev pub words_with : CommandLine → List ℕ → List ℕ → List (List ℕ)
words_with line folder name =
    option_words line ++ earlier line.rcfiles ++ word_beside (last_rcfile line.rcfiles) folder name ∷ []
