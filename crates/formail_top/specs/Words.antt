-- What the words of formail's command line say.
use Rattle.std.specs.Prelude.{◌≡◌, ℕ, Bool, true, false, ◌==◌, ◌&&◌, ◌||◌, not, nat_lt, nat_le, Option, Some, None, option_map, option_and_then, List, [], ◌∷◌, ◌++◌, length, codes, bytes_eq, if◌then◌else◌}
use Rattle.std.specs.List.{list_all, list_any, fold}
use Rattle.pm_bytes.specs.Letter.{is_blank_byte, is_digit_byte}
use Rattle.pm_bytes.specs.Name.{is_usable}
use Rattle.pm_bytes.specs.Number.{count_of}
use Rattle.pm_message.specs.Field.{is_name_byte, is_named}
use Rattle.formail_edit.specs.declared.edits.PutKind.{PutKind}
use Rattle.formail_edit.specs.declared.edits.PutKind.TheVariants.{Old, Replace, IfNone, Always}
use Rattle.formail_top.specs.declared.settings.Setting.{Setting}
use Rattle.formail_top.specs.declared.settings.Setting.TheVariants.{Join, Zap, KeepFrom, KeepBody, WithBody, Prefix, Take as TakeOf, Put as PutOf, Unique as UniqueOf, Rename as RenameOf, Reply, Trust, Skip, Total, Split, Program as ProgramOf, Argument as ArgumentOf, Cache as CacheOf}
use Rattle.formail_top.specs.declared.settings.Waits.{Waits}
use Rattle.formail_top.specs.declared.settings.Waits.TheVariants.{Ready, ForText, ForMore, Program, Argument, Unread}

-- each newline is followed by a blank
abbrev pub is_folded : List ℕ → Bool
is_folded [] = true
is_folded (a ∷ []) = not (a == 10)
is_folded (a ∷ b ∷ rest) = (not (a == 10) || is_blank_byte b) && is_folded (b ∷ rest)

-- a name without its colon, or that of the line `From `
abbrev pub is_bare_name : List ℕ → Bool
is_bare_name text = (nat_lt 0 (length text) && list_all is_name_byte text) || bytes_eq text (codes "From ")

-- `-i` and `-I` may have a bare name in place of a name, a colon and content
abbrev pub may_be_bare : PutKind → Bool
may_be_bare Old = true
may_be_bare Replace = true
may_be_bare kind = false

-- the text can be the argument of `-i`, `-I`, `-a` or `-A`
abbrev pub is_put : PutKind → List ℕ → Bool
is_put kind text = is_folded text && (is_named text || (may_be_bare kind && is_bare_name text))

-- a new field, where the text can be one
abbrev pub put_for : PutKind → List ℕ → Option Setting
put_for kind text = if is_put kind text then Some (PutOf (record { kind = kind; text = text })) else None

-- a name isn't empty
abbrev pub take_for : Bool → List ℕ → Option Setting
take_for whole name =
    if nat_lt 0 (length name) then Some (TakeOf (record { whole = whole; name = name })) else None

-- the setting of `-u` and `-U` with a name that isn't empty
abbrev pub unique_for : Bool → List ℕ → Option Setting
unique_for last name =
    if nat_lt 0 (length name) then Some (UniqueOf (record { last = last; name = name })) else None

-- what a letter with its text asks for
abbrev pub setting_for : ℕ → List ℕ → Option Setting
setting_for letter text =
    if letter == 112 then Some (Prefix text)
    else if letter == 120 then take_for false text
    else if letter == 88 then take_for true text
    else if letter == 105 then put_for Old text
    else if letter == 73 then put_for Replace text
    else if letter == 97 then put_for IfNone text
    else if letter == 65 then put_for Always text
    else if letter == 117 then unique_for false text
    else if letter == 85 then unique_for true text
    else None

-- `-R`: neither text is empty, and the new name has no line that could be a field
abbrev pub rename_for : List ℕ → List ℕ → Option Setting
rename_for old new =
    if nat_lt 0 (length old) && nat_lt 0 (length new) && is_folded new
    then Some (RenameOf (record { old = old; new = new })) else None

-- a word that can be a program's name or given to one: a text without the byte 0
abbrev pub usable_name : List ℕ → Option (List ℕ)
usable_name word = if is_usable word then Some word else None

-- the number of bytes at which a cache is emptied: 1 to 1,048,576, in at most 7 digits
abbrev pub bound_in : ℕ → Option ℕ
bound_in most = if nat_le 1 most && nat_le most 1_048_576 then Some most else None

-- that number as a text of at most 7 bytes says it
abbrev pub bound_for : List ℕ → Option ℕ
bound_for text = if nat_le (length text) 7 then option_and_then bound_in (count_of text) else None

-- a cache with this bound and name
abbrev pub cache_of : ℕ → List ℕ → Setting
cache_of most name = CacheOf (record { most = most; name = name })

-- the name isn't empty
abbrev pub cache_named : ℕ → List ℕ → Option Setting
cache_named most name = if nat_lt 0 (length name) then option_map (cache_of most) (usable_name name) else None

-- `-D`
abbrev pub cache_for : List ℕ → List ℕ → Option Setting
cache_for most name = option_and_then (λ bound. cache_named bound name) (bound_for most)

-- the setting of a letter that takes two texts
abbrev pub setting_for_both : ℕ → List ℕ → List ℕ → Option Setting
setting_for_both letter old new =
    if letter == 82 then rename_for old new
    else if letter == 68 then cache_for old new
    else None

-- the letters that stand alone
abbrev pub setting_of : ℕ → Option Setting
setting_of letter =
    if letter == 99 then Some Join
    else if letter == 122 then Some Zap
    else if letter == 102 then Some KeepFrom
    else if letter == 98 then Some KeepBody
    else if letter == 107 then Some WithBody
    else if letter == 114 then Some Reply
    else if letter == 116 then Some Trust
    else None

-- the letters that take a text
abbrev pub takes_text : ℕ → Bool
takes_text letter = list_any (λ other. letter == other) (codes "pxXaAiIuURD")

-- and those that take one more
abbrev pub takes_more : ℕ → Bool
takes_more letter = (letter == 82) || (letter == 68)

-- what some words ask for, and what the next one is
pub record Words : Type 0 where
  pub settings : List Setting
  pub waits : Waits

-- nothing is asked for, and the next word is this
abbrev pub waiting : Waits → Words
waiting waits = record { settings = []; waits = waits }

-- one setting, and then those that follow
abbrev pub with_setting : Option Setting → Words → Words
with_setting None words = waiting Unread
with_setting (Some setting) words = record { settings = setting ∷ words.settings; waits = words.waits }

-- a letter and its text
abbrev pub with_text : ℕ → List ℕ → Words
with_text letter text =
    if takes_more letter then waiting (ForMore letter text) else with_setting (setting_for letter text) (waiting Ready)

-- a letter takes the rest of its word, or where nothing is left the next one
abbrev pub with_rest : ℕ → List ℕ → Words
with_rest letter [] = waiting (ForText letter)
with_rest letter (byte ∷ rest) = with_text letter (byte ∷ rest)

-- `s` is the last letter of its word, and a program follows, or none
abbrev pub with_split : List ℕ → Words
with_split [] = with_setting (Some Split) (waiting Program)
with_split (byte ∷ rest) = waiting Unread

-- a group of letters
abbrev pub letters : List ℕ → Words
letters [] = waiting Ready
letters (letter ∷ rest) =
    if takes_text letter then with_rest letter rest
    else if letter == 115 then with_split rest
    else with_setting (setting_of letter) (letters rest)

-- a number of 1 to 9 digits
abbrev pub number_for : List ℕ → Option ℕ
number_for text = if nat_le (length text) 9 then count_of text else None

-- `-N`
abbrev pub with_total : List ℕ → Words
with_total text = with_setting (option_map Total (number_for text)) (waiting Ready)

-- `+N`
abbrev pub with_skip : List ℕ → Words
with_skip text = with_setting (option_map Skip (number_for text)) (waiting Ready)

-- what stands after a `-`: `-N`, or letters
abbrev pub after_minus : List ℕ → Words
after_minus [] = waiting Unread
after_minus (byte ∷ rest) = if is_digit_byte byte then with_total (byte ∷ rest) else letters (byte ∷ rest)

-- a word that isn't the text of a letter before it
abbrev pub group : List ℕ → Words
group [] = waiting Unread
group (sign ∷ rest) =
    if sign == 43 then with_skip rest
    else if sign == 45 then after_minus rest
    else waiting Unread

-- the program after `-s`, whose name isn't empty
abbrev pub program_for : List ℕ → Option Setting
program_for word = if nat_lt 0 (length word) then option_map ProgramOf (usable_name word) else None

-- a word for it
abbrev pub argument_for : List ℕ → Option Setting
argument_for word = option_map ArgumentOf (usable_name word)

-- one word, which is what was waited for
abbrev pub one_word : Waits → List ℕ → Words
one_word Ready word = group word
one_word (ForText letter) word = with_text letter word
one_word (ForMore letter text) word = with_setting (setting_for_both letter text word) (waiting Ready)
one_word Program word = with_setting (program_for word) (waiting Argument)
one_word Argument word = with_setting (argument_for word) (waiting Argument)
one_word Unread word = waiting Unread

-- one word more
abbrev pub then_word : Words → List ℕ → Words
then_word words word =
    let more = one_word words.waits word in
    record { settings = words.settings ++ more.settings; waits = more.waits }

-- all words; none where some word isn't read or one is wanting
abbrev pub closed : Waits → List Setting → Option (List Setting)
closed Ready settings = Some settings
closed Program settings = Some settings
closed Argument settings = Some settings
closed waits settings = None

-- the settings of all words, one by one
abbrev pub settings_of : List (List ℕ) → Option (List Setting)
settings_of words = let all = fold then_word (waiting Ready) words in closed all.waits all.settings

-- the settings of some more words were added, and what the next one is
abbrev pub Adds : Words → List Setting → List Setting → Waits → Type 0
Adds words old new waits = (new ≡ old ++ words.settings) × (waits ≡ words.waits)
