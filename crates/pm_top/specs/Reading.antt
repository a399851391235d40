-- What is known of the command line at a place in the words, and what one word adds to it.
use Rattle.std.specs.Prelude.{◌≡◌, ℕ, Bool, true, false, ◌||◌, List, Option, Some, None}
use Rattle.std.specs.List.{list_any}
use Rattle.pm_bytes.specs.Name.{has_zero}
use Rattle.pm_meaning.specs.declared.command_line.CommandLine.{CommandLine}
use Rattle.pm_top.specs.Words.{Said, is_equals, has_some, with_argument, with_sender, with_variable, with_rcfile}
use Rattle.pm_top.specs.declared.place.Place.{Place}
use Rattle.pm_top.specs.declared.place.Adds.{Adds}
use Rattle.pm_top.specs.declared.place.Adds.TheVariants.{Nothing, Argument, From, Value, Rcfile}
use Rattle.pm_top.specs.declared.place.Word.{Word}
use Rattle.pm_top.specs.declared.lists.Lists.{Lists}

-- the line with the options of this place
abbrev pub at : Place → CommandLine → CommandLine
at place line = record line { filter = place.filter; fails_softly = place.softly }

-- the line with this text more
abbrev pub added : Adds → List ℕ → CommandLine → CommandLine
added Nothing text line = line
added Argument text line = with_argument text line
added From text line = with_sender text line
added Value text line = with_variable text line
added Rcfile text line = with_rcfile text line

-- whether it is an rcfile that a word adds
abbrev pub adds_rcfile : Adds → Bool
adds_rcfile Rcfile = true
adds_rcfile other = false

-- the line with what a word says
abbrev pub with_word : Option Word → CommandLine → Option Said
with_word None line = None
with_word (Some word) line = Some (record { line = at word.place (added word.adds word.text.now line); next = word.place.next })

-- at this place the definition says that of each line
abbrev pub Says : (CommandLine → Option Said) → Place → Option Word → Type 0
Says said place found = (line : CommandLine) → has_some line.rcfiles ≡ place.named → said (at place line) ≡ with_word found line

-- the text can be added
abbrev pub CanAdd : Adds → List ℕ → Type 0
CanAdd Nothing text = Unit {0}
CanAdd Argument text = has_zero text ≡ false
CanAdd From text = Unit {0}
CanAdd Value text = (has_zero text ≡ false) × (list_any is_equals text ≡ true)
CanAdd Rcfile text = has_zero text ≡ false

-- a word's text can be added, and the place after it knows whether an rcfile was named
abbrev pub Fits : Place → Word → Type 0
Fits place word = CanAdd word.adds word.text.now × (word.place.named ≡ place.named || adds_rcfile word.adds)

-- what was added so far, with no option
abbrev pub line_of : Lists → CommandLine
line_of lists = record { filter = false; fails_softly = false; renew = lists.renew; arguments = lists.arguments.items; values = lists.values.items; rcfiles = lists.rcfiles.items }
