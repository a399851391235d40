-- What the arguments ask for is within bounds: a cache's bound, and new fields that bring no empty line.
use Rattle.std.proofs.Common.{◌≡◌, ◌≤◌, ℕ, suc, Bool, true, false, ◌&&◌, ◌||◌, not, ◌==◌, nat_le, nat_lt, Option, Some, None, option_map, option_and_then, List, [], ◌∷◌, ◌++◌, take, length, codes, refl, subst, arith, All, IfSome, length-take, if◌then◌else◌}
use Rattle.std.specs.List.{fold}
use Rattle.std.proofs.lemmas.Bool.{false≢true, and_right, or_from}
use Rattle.std.proofs.lemmas.Bool.Decides.{nat_tests}
use Rattle.std.proofs.lemmas.List.Elements.{All-nil, All-cons}
use Rattle.pm_message.specs.Split.{split_of}
use Rattle.pm_message.specs.Field.{is_named}
use Rattle.formail_edit.proofs.EmptyLines.{Filled, none_from}
use Rattle.formail_edit.specs.Laws.{has_empty_line}
use Rattle.formail_edit.specs.declared.edits.Put.{Put}
use Rattle.formail_extra.specs.Cache.{IsShortId}
use Rattle.formail_extra.specs.Reply.{envelope_of}
use Rattle.formail_extra.specs.Seen.{identifier_of}
use Rattle.formail_edit.specs.declared.edits.PutKind.{PutKind}
use Rattle.formail_edit.specs.declared.edits.PutKind.TheVariants.{Old, Replace, IfNone, Always}
use Rattle.formail_top.specs.Asked.{nothing, asked, is_sound, request_of, request_in, request_for}
use Rattle.formail_top.specs.Outputs.{id_of, ids_of}
use Rattle.formail_top.specs.Words.{is_folded, is_bare_name, may_be_bare, is_put, put_for, take_for, unique_for, setting_for, rename_for, usable_name, bound_in, bound_for, cache_of, cache_named, cache_for, setting_for_both, setting_of, takes_text, takes_more, Words, waiting, with_setting, with_text, with_rest, with_split, letters, number_for, with_total, with_skip, after_minus, group, program_for, argument_for, one_word, then_word, closed, settings_of}
use Rattle.pm_bytes.specs.Letter.{is_blank_byte, is_digit_byte}
use Rattle.pm_bytes.specs.Number.{count_of}
use Rattle.formail_top.specs.declared.request.Request.{Request}
use Rattle.formail_top.specs.declared.settings.Setting.{Setting}
use Rattle.formail_top.specs.declared.settings.Setting.TheVariants.{Put as PutOf, Rename as RenameOf, Skip, Total, Program as ProgramOf, Argument as ArgumentOf, Cache as CacheOf}
use Rattle.formail_top.specs.declared.settings.Waits.{Waits}
use Rattle.formail_top.specs.declared.settings.Waits.TheVariants.{Ready, ForText, ForMore, Program, Argument, Unread}

-- a new field brings no empty line
abbrev BringsNone : Put → Type 0
BringsNone put = has_empty_line (put.text ++ codes "\n") ≡ false

-- a cache is within its bound, and a new field brings no empty line
abbrev IsBound : Setting → Type 0
IsBound (CacheOf cache) = cache.most ≤ 1048576
IsBound (PutOf put) = BringsNone put
IsBound setting = Unit {0}

abbrev IfBound : Option Setting → Type 0
IfBound None = Unit {0}
IfBound (Some setting) = IsBound setting

abbrev AllBound : List Setting → Type 0
AllBound [] = Unit {0}
AllBound (setting ∷ settings) = IsBound setting × AllBound settings

if_both : (b : Bool) (x y : Option Setting) → IfBound x → IfBound y → IfBound (if b then x else y)
if_both true x y h k = h
if_both false x y h k = k

if_words : (b : Bool) (x y : Words) → AllBound x.settings → AllBound y.settings → AllBound (if b then x else y).settings
if_words true x y h k = h
if_words false x y h k = k

take_bound : (whole : Bool) (name : List ℕ) → IfBound (take_for whole name)
take_bound whole name = if_both (nat_lt 0 (length name)) _ None tt tt

-- where each newline is followed by a blank, and the first byte is no newline, no line is empty
or_true : (a b : Bool) → (not a || b) ≡ true → a ≡ true → b ≡ true
or_true true b h is = h
or_true false b h is = absurd (false≢true is)

and_true : (a b : Bool) → (a && b) ≡ true → (a ≡ true) × (b ≡ true)
and_true true b h = (refl, h)
and_true false b h = absurd (false≢true h)

blank_is_no_break : (b : ℕ) → is_blank_byte b ≡ true → b ≡ 10 → ⊥
blank_is_no_break b blank e = false≢true (subst (λ (x : ℕ). is_blank_byte x ≡ true) e blank)

not_true : (a : Bool) → not a ≡ true → a ≡ true → ⊥
not_true true h is = false≢true h
not_true false h is = false≢true is

folded_filled : (fresh : Bool) (b : ℕ) (text : List ℕ) → (fresh ≡ true → b ≡ 10 → ⊥) → is_folded (b ∷ text) ≡ true → Filled fresh ((b ∷ text) ++ codes "\n")
folded_filled fresh b [] first is = (first, ((λ t _. not_true (b == 10) is t), tt))
folded_filled fresh b (c ∷ text) first is =
    let both = and_true (not (b == 10) || is_blank_byte c) (is_folded (c ∷ text)) is in
    (first, folded_filled (b == 10) c text (λ t e. blank_is_no_break c (or_true (b == 10) (is_blank_byte c) both.0 t) e) both.1)

-- nor does the text of a field begin with a newline
no_bare : (kind : PutKind) → (may_be_bare kind && false) ≡ true → ⊥
no_bare Old h = false≢true h
no_bare Replace h = false≢true h
no_bare IfNone h = false≢true h
no_bare Always h = false≢true h

line_is_not_bare : (text : List ℕ) → is_bare_name (10 ∷ text) ≡ false
line_is_not_bare text =
    or_from (nat_lt 0 (length (10 ∷ text)) && false) false (and_right (nat_lt 0 (length (10 ∷ text))) false refl) refl

line_is_no_name : (kind : PutKind) (text : List ℕ) → (is_named (10 ∷ text) || (may_be_bare kind && is_bare_name (10 ∷ text))) ≡ true → ⊥
line_is_no_name kind text h = no_bare kind (subst (λ b. (may_be_bare kind && b) ≡ true) (line_is_not_bare text) h)

put_folded : (kind : PutKind) (text : List ℕ) → is_put kind text ≡ true → has_empty_line (text ++ codes "\n") ≡ false
put_folded kind [] is = absurd (no_bare kind is)
put_folded kind (b ∷ text) is =
    let both = and_true (is_folded (b ∷ text)) (is_named (b ∷ text) || (may_be_bare kind && is_bare_name (b ∷ text))) is in
    none_from true ((b ∷ text) ++ codes "\n")
    (folded_filled true b text (λ _ e. line_is_no_name kind text (subst (λ (x : ℕ). (is_named (x ∷ text) || (may_be_bare kind && is_bare_name (x ∷ text))) ≡ true) e both.1)) both.0)

unique_bound : (last : Bool) (name : List ℕ) → IfBound (unique_for last name)
unique_bound last name = if_both (nat_lt 0 (length name)) _ None tt tt

put_bound : (kind : PutKind) (text : List ℕ) → IfBound (put_for kind text)
put_bound kind text =
    elim (is_put kind text) as (λ b. is_put kind text ≡ b → IfBound (if b then Some (PutOf (record { kind = kind; text = text })) else None)) [
      | true ↦ λ is. put_folded kind text is
      | false ↦ λ _. tt
    ] refl

setting_bound : (letter : ℕ) (text : List ℕ) → IfBound (setting_for letter text)
setting_bound letter text =
    if_both (letter == 112) _ _ tt (if_both (letter == 120) _ _ (take_bound false text) (if_both (letter == 88) _ _ (take_bound true text)
    (if_both (letter == 105) _ _ (put_bound Old text) (if_both (letter == 73) _ _ (put_bound Replace text) (if_both (letter == 97) _ _ (put_bound IfNone text)
    (if_both (letter == 65) _ _ (put_bound Always text) (if_both (letter == 117) _ _ (unique_bound false text) (if_both (letter == 85) _ None (unique_bound true text) tt))))))))

alone_bound : (letter : ℕ) → IfBound (setting_of letter)
alone_bound letter =
    if_both (letter == 99) _ _ tt (if_both (letter == 122) _ _ tt (if_both (letter == 102) _ _ tt (if_both (letter == 98) _ _ tt
    (if_both (letter == 107) _ _ tt (if_both (letter == 114) _ _ tt (if_both (letter == 116) _ None tt tt))))))

rename_bound : (old more : List ℕ) → IfBound (rename_for old more)
rename_bound old more = if_both (nat_lt 0 (length old) && nat_lt 0 (length more) && is_folded more) (Some (RenameOf (record { old = old; new = more }))) None tt tt

-- a bound that is read is within the bounds
abbrev IfSmall : Option ℕ → Type 0
IfSmall None = Unit {0}
IfSmall (Some most) = most ≤ 1048576

bound_small : (most : ℕ) → IfSmall (bound_in most)
bound_small most =
    elim (nat_le 1 most) as (λ a. IfSmall (if a && nat_le most 1_048_576 then Some most else None)) [
      | true ↦ elim (nat_le most 1_048_576) as (λ b. nat_le most 1_048_576 ≡ b → IfSmall (if b then Some most else None)) [
        | true ↦ λ within. grind (arith, nat_tests)
        | false ↦ λ beyond. tt
      ] refl
      | false ↦ tt
    ]

then_small : (o : Option ℕ) → IfSmall (option_and_then bound_in o)
then_small None = tt
then_small (Some most) = bound_small most

if_small : (b : Bool) (x : Option ℕ) → IfSmall x → IfSmall (if b then x else None)
if_small true x h = h
if_small false x h = tt

text_small : (text : List ℕ) → IfSmall (bound_for text)
text_small text = if_small (nat_le (length text) 7) (option_and_then bound_in (count_of text)) (then_small (count_of text))

named_within : (most : ℕ) (name : Option (List ℕ)) → most ≤ 1048576 → IfBound (option_map (cache_of most) name)
named_within most None h = tt
named_within most (Some name) h = h

cache_named_within : (most : ℕ) (name : List ℕ) → most ≤ 1048576 → IfBound (cache_named most name)
cache_named_within most name h =
    if_both (nat_lt 0 (length name)) (option_map (cache_of most) (usable_name name)) None (named_within most (usable_name name) h) tt

cache_bound : (most : Option ℕ) (name : List ℕ) → IfSmall most → IfBound (option_and_then (λ bound. cache_named bound name) most)
cache_bound None name h = tt
cache_bound (Some most) name h = cache_named_within most name h

both_bound : (letter : ℕ) (old more : List ℕ) → IfBound (setting_for_both letter old more)
both_bound letter old more =
    if_both (letter == 82) (rename_for old more) _ (rename_bound old more)
    (if_both (letter == 68) (cache_for old more) None (cache_bound (bound_for old) more (text_small old)) tt)

with_bound : (setting : Option Setting) (words : Words) → IfBound setting → AllBound words.settings → AllBound (with_setting setting words).settings
with_bound None words h k = tt
with_bound (Some setting) words h k = (h, k)

text_bound : (letter : ℕ) (text : List ℕ) → AllBound (with_text letter text).settings
text_bound letter text =
    if_words (takes_more letter) (waiting (ForMore letter text)) (with_setting (setting_for letter text) (waiting Ready)) tt
    (with_bound (setting_for letter text) (waiting Ready) (setting_bound letter text) tt)

rest_bound : (letter : ℕ) (rest : List ℕ) → AllBound (with_rest letter rest).settings
rest_bound letter [] = tt
rest_bound letter (byte ∷ rest) = text_bound letter (byte ∷ rest)

split_bound : (rest : List ℕ) → AllBound (with_split rest).settings
split_bound [] = (tt, tt)
split_bound (byte ∷ rest) = tt

letters_bound : (word : List ℕ) → AllBound (letters word).settings
letters_bound [] = tt
letters_bound (letter ∷ rest) =
    if_words (takes_text letter) (with_rest letter rest) _ (rest_bound letter rest)
    (if_words (letter == 115) (with_split rest) (with_setting (setting_of letter) (letters rest)) (split_bound rest)
    (with_bound (setting_of letter) (letters rest) (alone_bound letter) (letters_bound rest)))

total_within : (o : Option ℕ) → IfBound (option_map Total o)
total_within None = tt
total_within (Some n) = tt

skip_within : (o : Option ℕ) → IfBound (option_map Skip o)
skip_within None = tt
skip_within (Some n) = tt

minus_bound : (word : List ℕ) → AllBound (after_minus word).settings
minus_bound [] = tt
minus_bound (byte ∷ rest) =
    if_words (is_digit_byte byte) (with_total (byte ∷ rest)) (letters (byte ∷ rest))
    (with_bound (option_map Total (number_for (byte ∷ rest))) (waiting Ready) (total_within (number_for (byte ∷ rest))) tt) (letters_bound (byte ∷ rest))

group_bound : (word : List ℕ) → AllBound (group word).settings
group_bound [] = tt
group_bound (sign ∷ rest) =
    if_words (sign == 43) (with_skip rest) _ (with_bound (option_map Skip (number_for rest)) (waiting Ready) (skip_within (number_for rest)) tt)
    (if_words (sign == 45) (after_minus rest) (waiting Unread) (minus_bound rest) tt)

program_within : (o : Option (List ℕ)) → IfBound (option_map ProgramOf o)
program_within None = tt
program_within (Some name) = tt

argument_within : (o : Option (List ℕ)) → IfBound (option_map ArgumentOf o)
argument_within None = tt
argument_within (Some name) = tt

word_bound : (waits : Waits) (word : List ℕ) → AllBound (one_word waits word).settings
word_bound Ready word = group_bound word
word_bound (ForText letter) word = text_bound letter word
word_bound (ForMore letter text) word = with_bound (setting_for_both letter text word) (waiting Ready) (both_bound letter text word) tt
word_bound Program word =
    with_bound (program_for word) (waiting Argument)
    (if_both (nat_lt 0 (length word)) (option_map ProgramOf (usable_name word)) None (program_within (usable_name word)) tt) tt
word_bound Argument word = with_bound (argument_for word) (waiting Argument) (argument_within (usable_name word)) tt
word_bound Unread word = tt

both_lists : (xs ys : List Setting) → AllBound xs → AllBound ys → AllBound (xs ++ ys)
both_lists [] ys h k = k
both_lists (x ∷ xs) ys h k = (h.0, both_lists xs ys h.1 k)

words_bound : (all : Words) (words : List (List ℕ)) → AllBound all.settings → AllBound (fold then_word all words).settings
words_bound all [] h = h
words_bound all (word ∷ words) h =
    words_bound (then_word all word) words (both_lists all.settings (one_word all.waits word).settings h (word_bound all.waits word))

abbrev IfAll : Option (List Setting) → Type 0
IfAll None = Unit {0}
IfAll (Some settings) = AllBound settings

closed_bound : (waits : Waits) (settings : List Setting) → AllBound settings → IfAll (closed waits settings)
closed_bound Ready settings h = h
closed_bound Program settings h = h
closed_bound Argument settings h = h
closed_bound (ForText letter) settings h = tt
closed_bound (ForMore letter text) settings h = tt
closed_bound Unread settings h = tt

-- the cache that is asked for, if one is, has a bound within its bounds
abbrev pub IsBounded : Request → Type 0
IsBounded request = IfSome request.cache (λ cache. cache.most ≤ 1048576)

-- and no new field brings an empty line
abbrev AreBounded : Request → Type 0
AreBounded request = IsBounded request × All BringsNone request.edits.puts

more_bring_none : (puts : List Put) (put : Put) → All BringsNone puts → BringsNone put → All BringsNone (puts ++ put ∷ [])
more_bring_none [] put h k = All-cons BringsNone put [] k (All-nil BringsNone)
more_bring_none (first ∷ puts) put h k =
    All-cons BringsNone first (puts ++ put ∷ []) (h 0 first (omega arith))
    (more_bring_none puts put (λ i d less. h (suc i) d (omega (arith, less))) k)

asked_bound : (request : Request) (setting : Setting) → AreBounded request → IsBound setting → AreBounded (asked request setting)
asked_bound request (CacheOf cache) h k = (k, h.1)
asked_bound request (PutOf put) h k = (h.0, more_bring_none request.edits.puts put h.1 k)
asked_bound request setting h k = h

all_asked : (request : Request) (settings : List Setting) → AreBounded request → AllBound settings → AreBounded (fold asked request settings)
all_asked request [] h k = h
all_asked request (setting ∷ settings) h k = all_asked (asked request setting) settings (asked_bound request setting h k.0) k.1

abbrev IfBounded : Option Request → Type 0
IfBounded None = Unit {0}
IfBounded (Some request) = AreBounded request

sound_bound : (sound : Bool) (settings : List Setting) → AllBound settings → IfBounded (if sound then Some (request_of settings) else None)
sound_bound true settings h = all_asked nothing settings (tt, All-nil BringsNone) h
sound_bound false settings h = tt

in_bound : (settings : Option (List Setting)) → IfAll settings → IfBounded (option_and_then request_in settings)
in_bound None h = tt
in_bound (Some settings) h = sound_bound (is_sound settings) settings h

request_bound : (words : List (List ℕ)) → IfBounded (request_for words)
request_bound words =
    let all = fold then_word (waiting Ready) words in
    in_bound (settings_of words) (closed_bound all.waits all.settings (words_bound (waiting Ready) words tt))

pub asked_within : (words : List (List ℕ)) (request : Request) → request_for words ≡ Some request → IsBounded request
asked_within words request is = (subst IfBounded is (request_bound words)).0

pub puts_bring_none : (words : List (List ℕ)) (request : Request) → request_for words ≡ Some request → All BringsNone request.edits.puts
puts_bring_none words request is = (subst IfBounded is (request_bound words)).1

-- an identifier that was cut is short
taken_short : (text : Option (List ℕ)) → IsShortId (option_map (take 4_096) text)
taken_short None = tt
taken_short (Some text) = omega (arith, length-take 4_096 text)

id_short : (request : Request) (mail : List ℕ) → IsShortId (id_of request mail)
id_short request mail =
    elim request.reply as (λ reply. IsShortId (if reply then option_map (take 4_096) (envelope_of (split_of mail)) else identifier_of (split_of mail))) [
      | true ↦ taken_short (envelope_of (split_of mail))
      | false ↦ taken_short _
    ]

pub ids_short : (request : Request) (mails : List (List ℕ)) → All IsShortId (ids_of request mails)
ids_short request [] = All-nil IsShortId
ids_short request (mail ∷ mails) = All-cons IsShortId (id_of request mail) (ids_of request mails) (id_short request mail) (ids_short request mails)
