-- Whether a word leaves a quote open, from each place where its reader can stand, and for each end of a text.
use Rattle.std.specs.Prelude.{ℕ, ◌<◌, List, ◌++◌, ◌≡◌, nat_eq, if◌then◌else◌, Bool, false, length, get_or}
use Rattle.pm_bytes.specs.Alphabet.{SINGLE_QUOTE, DOUBLE_QUOTE, BACKQUOTE, BACKSLASH}
use Rattle.pm_bytes.specs.Letter.{is_space_byte}
use Rattle.pm_recipe.specs.declared.quotes.Opens.{Opens}
use Rattle.pm_recipe.specs.Places.{rest_of}
use Rattle.pm_recipe.specs.declared.words.InWord.{InWord}
use Rattle.pm_recipe.specs.WordPlaces.{word_places, is_quote}

-- whether a quote is open where a reader comes no further
abbrev pub is_open : InWord → List ℕ → Bool
is_open at text = is_quote (rest_of word_places false at text)

-- of each place in a word
pub record AreOpens (opens : Opens) (text : List ℕ) : Type 0 where
  pub word : opens.word ≡ is_open InWord.Plain text
  pub escaped : opens.escaped ≡ is_open InWord.Escaped text
  pub single : opens.single ≡ is_open InWord.Single text
  pub double : opens.double ≡ is_open InWord.Double text
  pub double_escaped : opens.double_escaped ≡ is_open InWord.DoubleEscaped text
  pub backquote : opens.backquote ≡ is_open InWord.Backquote text
  pub backquote_escaped : opens.backquote_escaped ≡ is_open InWord.BackquoteEscaped text
  pub inner : opens.inner ≡ is_open InWord.Inner text
  pub inner_escaped : opens.inner_escaped ≡ is_open InWord.InnerEscaped text

-- in a word, before a byte
abbrev pub word_before : ℕ → Opens → Bool
word_before byte opens =
    if is_space_byte byte then false else if nat_eq byte BACKSLASH then opens.escaped else if nat_eq byte SINGLE_QUOTE then opens.single else
    if nat_eq byte DOUBLE_QUOTE then opens.double else if nat_eq byte BACKQUOTE then opens.backquote else opens.word

-- in double quotes, before a byte
abbrev pub double_before : ℕ → Opens → Bool
double_before byte opens =
    if nat_eq byte BACKSLASH then opens.double_escaped else if nat_eq byte DOUBLE_QUOTE then opens.word else
    if nat_eq byte BACKQUOTE then opens.inner else opens.double

-- in backquotes, before a byte
abbrev pub backquote_before : ℕ → Opens → Bool
backquote_before byte opens = if nat_eq byte BACKSLASH then opens.backquote_escaped else if nat_eq byte BACKQUOTE then opens.word else opens.backquote

-- in backquotes that stand in double quotes, before a byte
abbrev pub inner_before : ℕ → Opens → Bool
inner_before byte opens = if nat_eq byte BACKSLASH then opens.inner_escaped else if nat_eq byte BACKQUOTE then opens.double else opens.inner

-- of each place before a byte
abbrev pub opens_before : ℕ → Opens → Opens
opens_before byte opens = record {
  word = word_before byte opens;
  escaped = opens.word;
  single = if nat_eq byte SINGLE_QUOTE then opens.word else opens.single;
  double = double_before byte opens;
  double_escaped = opens.double;
  backquote = backquote_before byte opens;
  backquote_escaped = opens.backquote;
  inner = inner_before byte opens;
  inner_escaped = opens.inner;
}

-- at the place of a number stands whether a word leaves a quote open that begins so many bytes before the text's end
pub record Knows (known : List Bool) (text : List ℕ) : Type 0 where
  pub at : (front rest : List ℕ) → text ≡ front ++ rest → length rest < length known → get_or known (length rest) false ≡ is_open InWord.Plain rest
