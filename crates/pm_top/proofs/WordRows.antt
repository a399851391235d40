-- Command lines and what they ask for, worked out.
use Rattle.std.proofs.Common.{◌≡◌, List, ℕ, [], ◌∷◌, Option, Some, None, true, false, codes, refl}
use Rattle.pm_bytes.specs.declared.environment.Pair.{Pair}
use Rattle.pm_message.specs.declared.renewal.Renew.{Renew}
use Rattle.pm_message.specs.declared.renewal.Renew.TheVariants.{Keep, AddMissing, Sender, Date}
use Rattle.pm_meaning.specs.declared.command_line.CommandLine.{CommandLine}
use Rattle.pm_top.specs.declared.place.Next.TheVariants.{Any}
use Rattle.pm_top.specs.Words.{no_words, asked}

-- what words of bytes ask for
abbrev line_by : List (List ℕ) → Option CommandLine
line_by words = asked Any no_words words

-- the lines that most rows ask for: of a mail filter, and of these rcfiles
abbrev filter_of : Renew → List (List ℕ) → List Pair → List ℕ → CommandLine
filter_of renew arguments values rcfile = record { filter = true; fails_softly = false; renew = renew; arguments = arguments; values = values; rcfiles = rcfile ∷ [] }

abbrev rcfiles_of : List (List ℕ) → CommandLine
rcfiles_of rcfiles = record { filter = false; fails_softly = false; renew = AddMissing; arguments = []; values = []; rcfiles = rcfiles }

abbrev pair : List ℕ → List ℕ → Pair
pair name value = record { name = name; value = value }

-- `procmail`
no_word : line_by [] ≡ Some (rcfiles_of [])
no_word = refl

-- `procmail ./a ./b`
two_rcfiles : line_by (codes "./a" ∷ codes "./b" ∷ []) ≡ Some (rcfiles_of (codes "./a" ∷ codes "./b" ∷ []))
two_rcfiles = refl

-- `procmail -t rc`, and `rc -t`
softly : line_by (codes "-t" ∷ codes "rc" ∷ []) ≡ Some (record (rcfiles_of (codes "rc" ∷ [])) { fails_softly = true })
softly = refl

softly_after : line_by (codes "rc" ∷ codes "-t" ∷ []) ≡ Some (record (rcfiles_of (codes "rc" ∷ [])) { fails_softly = true })
softly_after = refl

-- `procmail -m rc`: a mail filter takes the mail as it is
filter : line_by (codes "-m" ∷ codes "rc" ∷ []) ≡ Some (filter_of Keep [] [] (codes "rc"))
filter = refl

-- `procmail -m -a x rc y`
filter_arguments : line_by (codes "-m" ∷ codes "-a" ∷ codes "x" ∷ codes "rc" ∷ codes "y" ∷ []) ≡ Some (filter_of Keep (codes "x" ∷ codes "y" ∷ []) [] (codes "rc"))
filter_arguments = refl

-- `procmail -m rc -t -- X=1 ''`: after the rcfile of a mail filter each word is an argument
options_after : line_by (codes "-m" ∷ codes "rc" ∷ codes "-t" ∷ codes "--" ∷ codes "X=1" ∷ [] ∷ [])
    ≡ Some (filter_of Keep (codes "-t" ∷ codes "--" ∷ codes "X=1" ∷ [] ∷ []) [] (codes "rc"))
options_after = refl

-- `procmail -m X=1 rc`
filter_variable : line_by (codes "-m" ∷ codes "X=1" ∷ codes "rc" ∷ []) ≡ Some (filter_of Keep [] (pair (codes "X") (codes "1") ∷ []) (codes "rc"))
filter_variable = refl

-- `procmail -mf who rc`
filter_sender : line_by (codes "-mf" ∷ codes "who" ∷ codes "rc" ∷ []) ≡ Some (filter_of (Sender (codes "who")) [] [] (codes "rc"))
filter_sender = refl

-- `procmail -m`, `procmail -m X=1`: the rcfile is wanting
filter_alone : line_by (codes "-m" ∷ []) ≡ None
filter_alone = refl

filter_variable_alone : line_by (codes "-m" ∷ codes "X=1" ∷ []) ≡ None
filter_variable_alone = refl

-- `procmail rc -m x`, `procmail a X=1 b -m c`: the first rcfile is the filter's, and those after it are arguments
filter_after : line_by (codes "rc" ∷ codes "-m" ∷ codes "x" ∷ []) ≡ Some (filter_of Keep (codes "x" ∷ []) [] (codes "rc"))
filter_after = refl

filter_after_two : line_by (codes "a" ∷ codes "X=1" ∷ codes "b" ∷ codes "-m" ∷ codes "c" ∷ [])
    ≡ Some (filter_of Keep (codes "b" ∷ codes "c" ∷ []) (pair (codes "X") (codes "1") ∷ []) (codes "a"))
filter_after_two = refl

-- `procmail -fwho`, `procmail -r who`, `procmail -tYofwho`
sender : line_by (codes "-fwho" ∷ []) ≡ Some (record (rcfiles_of []) { renew = Sender (codes "who") })
sender = refl

sender_next : line_by (codes "-r" ∷ codes "who" ∷ []) ≡ Some (record (rcfiles_of []) { renew = Sender (codes "who") })
sender_next = refl

sender_in_group : line_by (codes "-tYofwho" ∷ []) ≡ Some (record (rcfiles_of []) { fails_softly = true; renew = Sender (codes "who") })
sender_in_group = refl

-- `procmail -f-`, `procmail -f -`
date : line_by (codes "-f-" ∷ []) ≡ Some (record (rcfiles_of []) { renew = Date })
date = refl

date_next : line_by (codes "-f" ∷ codes "-" ∷ []) ≡ Some (record (rcfiles_of []) { renew = Date })
date_next = refl

-- `procmail -fwho -f-`, `procmail -f- -fwho`: the last counts
last_date : line_by (codes "-fwho" ∷ codes "-f-" ∷ []) ≡ Some (record (rcfiles_of []) { renew = Date })
last_date = refl

last_sender : line_by (codes "-f-" ∷ codes "-fwho" ∷ []) ≡ Some (record (rcfiles_of []) { renew = Sender (codes "who") })
last_sender = refl

-- `procmail -f`, `procmail -a`, `procmail -f ''`, `procmail '-fa b'`
no_sender : line_by (codes "-f" ∷ []) ≡ None
no_sender = refl

no_argument : line_by (codes "-a" ∷ []) ≡ None
no_argument = refl

empty_sender : line_by (codes "-f" ∷ [] ∷ []) ≡ None
empty_sender = refl

blank_in_sender : line_by (codes "-fa b" ∷ []) ≡ None
blank_in_sender = refl

-- `procmail -ax -a y`, `procmail -a -m`, `procmail -a ''`: any text is an argument
arguments : line_by (codes "-ax" ∷ codes "-a" ∷ codes "y" ∷ []) ≡ Some (record (rcfiles_of []) { arguments = codes "x" ∷ codes "y" ∷ [] })
arguments = refl

option_as_argument : line_by (codes "-a" ∷ codes "-m" ∷ []) ≡ Some (record (rcfiles_of []) { arguments = codes "-m" ∷ [] })
option_as_argument = refl

empty_argument : line_by (codes "-a" ∷ [] ∷ []) ≡ Some (record (rcfiles_of []) { arguments = [] ∷ [] })
empty_argument = refl

-- `procmail -- -x`, `procmail -- -- X=1`, `procmail -`
ended : line_by (codes "--" ∷ codes "-x" ∷ []) ≡ Some (rcfiles_of (codes "-x" ∷ []))
ended = refl

ended_twice : line_by (codes "--" ∷ codes "--" ∷ codes "X=1" ∷ []) ≡ Some (record (rcfiles_of (codes "--" ∷ [])) { values = pair (codes "X") (codes "1") ∷ [] })
ended_twice = refl

minus : line_by (codes "-" ∷ []) ≡ Some (rcfiles_of (codes "-" ∷ []))
minus = refl

-- `procmail X=a=b`, `procmail _x9=`
equals_in_value : line_by (codes "X=a=b" ∷ []) ≡ Some (record (rcfiles_of []) { values = pair (codes "X") (codes "a=b") ∷ [] })
equals_in_value = refl

empty_value : line_by (codes "_x9=" ∷ []) ≡ Some (record (rcfiles_of []) { values = pair (codes "_x9") [] ∷ [] })
empty_value = refl

-- `procmail -m 1X=2 rc`, `procmail =x`, `procmail X-Y=1`, `procmail ./a=b`: no name of a variable
digit_first : line_by (codes "-m" ∷ codes "1X=2" ∷ codes "rc" ∷ []) ≡ None
digit_first = refl

no_name : line_by (codes "=x" ∷ []) ≡ None
no_name = refl

minus_in_name : line_by (codes "X-Y=1" ∷ []) ≡ None
minus_in_name = refl

file_with_equals : line_by (codes "./a=b" ∷ []) ≡ None
file_with_equals = refl

-- `procmail -q`, `procmail --t`, `procmail ''`
other_letter : line_by (codes "-q" ∷ []) ≡ None
other_letter = refl

two_minus : line_by (codes "--t" ∷ []) ≡ None
two_minus = refl

empty_word : line_by ([] ∷ []) ≡ None
empty_word = refl

-- a byte 0 in an rcfile, a value, the text of `-a`, and an argument of a mail filter
zero_in_rcfile : line_by ((97 ∷ 0 ∷ []) ∷ []) ≡ None
zero_in_rcfile = refl

zero_in_value : line_by ((88 ∷ 61 ∷ 0 ∷ []) ∷ []) ≡ None
zero_in_value = refl

zero_in_text : line_by (codes "-a" ∷ (0 ∷ []) ∷ []) ≡ None
zero_in_text = refl

zero_in_argument : line_by (codes "-m" ∷ codes "rc" ∷ (0 ∷ []) ∷ []) ≡ None
zero_in_argument = refl
