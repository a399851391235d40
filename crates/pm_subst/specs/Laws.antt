-- Laws of texts, in the words of those who write them.
use Rattle.std.specs.Prelude.{ℕ, List, [], ◌∷◌, ◌++◌, ◌≡◌, nat_eq, Bool, true, false, not, ◌&&◌, ◌||◌, length}
use Rattle.std.specs.List.{list_all}
use Rattle.pm_bytes.specs.Alphabet.{BACKSLASH, DOLLAR, BACKQUOTE, DOUBLE_QUOTE, SINGLE_QUOTE, HASH}
use Rattle.pm_bytes.specs.Letter.{is_space_byte}
use Rattle.pm_vars.specs.Table.{Table}
use Rattle.pm_subst.specs.declared.kinds.Mode.{Mode}
use Rattle.pm_subst.specs.declared.kinds.Mode.TheVariants.{One, Quoted, Many}
use Rattle.pm_subst.specs.Commands.{commands_in}
use Rattle.pm_subst.specs.Words.{words_in}

-- inside double quotes the backslash, the dollar and the backquote mean something
abbrev pub means_in_quotes : ℕ → Bool
means_in_quotes byte = nat_eq byte BACKSLASH || nat_eq byte DOLLAR || nat_eq byte BACKQUOTE

-- outside them both quotes do too
abbrev pub means_outside : ℕ → Bool
means_outside byte = means_in_quotes byte || nat_eq byte DOUBLE_QUOTE || nat_eq byte SINGLE_QUOTE

-- where words are split blanks and newlines do too
abbrev pub has_meaning : Mode → ℕ → Bool
has_meaning Quoted byte = means_in_quotes byte
has_meaning One byte = means_outside byte
has_meaning Many byte = means_outside byte || is_space_byte byte

-- where words are split a `#` in front begins a comment
abbrev pub begins_comment : Mode → List ℕ → Bool
begins_comment Many (byte ∷ bytes) = nat_eq byte HASH
begins_comment _ text = false

-- a text in which nothing has a meaning
abbrev pub is_plain : Mode → List ℕ → Bool
is_plain mode text = not (begins_comment mode text) && list_all (λ byte. not (has_meaning mode byte)) text

-- a text as a word; where words are split an empty text is none
abbrev pub as_words : Mode → List ℕ → List (List ℕ)
as_words Many [] = []
as_words mode text = text ∷ []

-- a text without this byte
abbrev pub lacks : ℕ → List ℕ → Bool
lacks byte text = list_all (λ other. not (nat_eq other byte)) text

-- a text in single quotes
abbrev pub in_single : List ℕ → List ℕ
in_single text = SINGLE_QUOTE ∷ (text ++ SINGLE_QUOTE ∷ [])

-- a plain text, or one in single quotes, which holds no such quote
pub data IsSimple (text : List ℕ) : Type 0 where
  Plain : is_plain Many text ≡ true → IsSimple text
  Single : (inside : List ℕ) → text ≡ in_single inside → lacks SINGLE_QUOTE inside ≡ true → IsSimple text

-- a plain text is its own one word
abbrev pub PlainStands : Type 0
PlainStands = (mode : Mode) (table : Table) (outputs : List (List ℕ)) (text : List ℕ)
    → is_plain mode text ≡ true → words_in mode table outputs text ≡ as_words mode text

-- outside double quotes a text in single quotes is that text, whatever else it holds
abbrev pub SingleStands : Mode → Type 0
SingleStands mode = (table : Table) (outputs : List (List ℕ)) (text : List ℕ)
    → lacks SINGLE_QUOTE text ≡ true → words_in mode table outputs (in_single text) ≡ text ∷ []

-- inside double quotes the single quotes stay
abbrev pub SinglesStay : Type 0
SinglesStay = (table : Table) (outputs : List (List ℕ)) (text : List ℕ)
    → is_plain Quoted text ≡ true → words_in Quoted table outputs (in_single text) ≡ in_single text ∷ []

-- where words are split, the words of a simple text, a blank or a newline, and any text are those of the first and then
-- those of the last
abbrev pub BlanksPart : Type 0
BlanksPart = (table : Table) (outputs : List (List ℕ)) (first : List ℕ) (blank : ℕ) (rest : List ℕ)
    → IsSimple first → is_space_byte blank ≡ true
    → words_in Many table outputs (first ++ blank ∷ rest)
    ≡ words_in Many table outputs first ++ words_in Many table outputs rest

-- where they aren't, any text is one word
abbrev pub OneWord : Mode → Type 0
OneWord mode = (table : Table) (outputs : List (List ℕ)) (text : List ℕ) → length (words_in mode table outputs text) ≡ 1

-- a text without a backquote has no command
abbrev pub NoCommand : Type 0
NoCommand = (mode : Mode) (text : List ℕ) → lacks BACKQUOTE text ≡ true → commands_in mode text ≡ []
