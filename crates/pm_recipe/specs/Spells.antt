-- How each span of an rcfile is spelled (procmailrc(5)), and what a cut of a text into spans is.
use Rattle.std.specs.Prelude.{ℕ, ◌+◌, ◌≤◌, ◌<◌, List, [], ◌∷◌, ◌++◌, map, ◌≡◌, Bool, true, false, not, ◌&&◌, ◌||◌, length}
use Rattle.pm_bytes.specs.Letter.{is_name_start, is_space_byte}
use Rattle.pm_recipe.specs.Bytes.{begins_with}
use Rattle.pm_recipe.specs.Front.{ends_name, most_blocks}
use Rattle.pm_recipe.specs.Spans.{Span, newlines, situation_after}
use Rattle.pm_recipe.specs.Words.{IsLine, AreBlanks, IsName, AreJoins, AreWords, in_flags, IsRest, IsTail}
use Rattle.pm_recipe.specs.Quotes.{IsValue}
use Rattle.pm_bytes.specs.Alphabet.{NEWLINE, HASH, STAR, OPEN_BRACE, CLOSE_BRACE, COLON, EQUALS, BAR, BANG, BACKSLASH, ZERO}
use Rattle.pm_recipe.specs.declared.fronts.Situation.{Situation}
use Rattle.pm_recipe.specs.declared.fronts.Kind.{Kind}
use Rattle.pm_recipe.specs.declared.fronts.Kind.TheVariants.{Gap, Colon, Condition, Mailbox, Pipe, WriteOut, Capture, Forward, Open, TooDeep, Close, Assign, Unset, Skipped}

-- a blank, a newline, a join or a comment
pub data IsGap (bytes : List ℕ) (behind : List ℕ) : Type 0 where
  Space : (byte : ℕ) → bytes ≡ byte ∷ [] → is_space_byte byte ≡ true → IsGap bytes behind
  Join : bytes ≡ BACKSLASH ∷ NEWLINE ∷ [] → IsGap bytes behind
  Comment : (text : List ℕ) → bytes ≡ HASH ∷ text → IsRest text behind → IsGap bytes behind

-- a byte and the line after it
pub record IsMarked (mark : ℕ) (text : List ℕ) (bytes : List ℕ) (behind : List ℕ) : Type 0 where
  pub bytes_are : bytes ≡ mark ∷ text
  pub line : IsLine 0 text behind

-- after an opening brace, and joins, there is a blank, a newline or the end
pub record IsOpened (behind : List ℕ) : Type 0 where
  pub joins : List ℕ
  pub rest : List ℕ
  pub behind_is : behind ≡ joins ++ rest
  pub joined : AreJoins 0 joins rest
  pub ends : ends_name rest ≡ true

-- a name, which begins with a letter or an underscore
pub record IsNamed (name : List ℕ) (behind : List ℕ) : Type 0 where
  pub first : ℕ
  pub others : List ℕ
  pub name_is : name ≡ first ∷ others
  pub begins : is_name_start first ≡ true
  pub reaches : IsName name behind

-- a name and an `=` with blanks on both sides begin a text, and this follows
pub record IsSet (name : List ℕ) (text : List ℕ) (value : List ℕ) : Type 0 where
  pub blanks : List ℕ
  pub indent : List ℕ
  pub text_is : text ≡ name ++ (blanks ++ (EQUALS ∷ (indent ++ value)))
  pub named : IsNamed name (blanks ++ (EQUALS ∷ (indent ++ value)))
  pub apart : AreBlanks 0 blanks (EQUALS ∷ (indent ++ value))
  pub indented : AreBlanks 0 indent value

-- an assignment of a word whose quotes are closed
pub record IsSetting (name : List ℕ) (text : List ℕ) (bytes : List ℕ) (behind : List ℕ) : Type 0 where
  pub set : IsSet name (bytes ++ behind) (text ++ behind)
  pub value : IsValue text behind

-- a bar and a line are set
pub record IsCapture (name : List ℕ) (text : List ℕ) (bytes : List ℕ) (behind : List ℕ) : Type 0 where
  pub set : IsSet name (bytes ++ behind) (BAR ∷ (text ++ behind))
  pub line : IsLine 0 text behind

-- a name alone: no `=` follows it and its blanks
pub record IsLoneName (name : List ℕ) (bytes : List ℕ) (behind : List ℕ) : Type 0 where
  pub bytes_are : bytes ≡ name
  pub named : IsNamed name behind
  pub ends : ends_name behind ≡ true
  pub alone : (value : List ℕ) → IsSet name (bytes ++ behind) value → ⊥

-- a colon, a zero and flags begin a text, and this follows
pub record IsHead (text : List ℕ) (after : List ℕ) : Type 0 where
  pub joins : List ℕ
  pub flags : List ℕ
  pub text_is : text ≡ COLON ∷ (joins ++ (ZERO ∷ (flags ++ after)))
  pub joined : AreJoins 0 joins (ZERO ∷ (flags ++ after))
  pub flagged : AreWords in_flags false 0 flags after

-- a colon line's beginning with a second colon and blanks, before a lock's text
pub record IsLockHead (text : List ℕ) (lock : List ℕ) : Type 0 where
  pub blanks : List ℕ
  pub head : IsHead text (COLON ∷ (blanks ++ lock))
  pub apart : AreBlanks 0 blanks lock

-- a colon line, without a lock or with one whose quotes are closed
pub data IsColonLine (text : List ℕ) (behind : List ℕ) : Type 0 where
  Plain : (rest : List ℕ) → IsHead text (rest ++ behind) → begins_with COLON (rest ++ behind) ≡ false → IsRest rest behind → IsColonLine text behind
  Locked : (lock tail : List ℕ) → IsLockHead text (lock ++ (tail ++ behind)) → IsValue lock (tail ++ behind) → IsTail true 0 tail behind
      → IsColonLine text behind

-- no word begins a text: a quote isn't closed
abbrev pub IsUnclosed : List ℕ → Type 0
IsUnclosed text = (word behind : List ℕ) → text ≡ word ++ behind → IsValue word behind → ⊥

-- a statement whose quote isn't closed begins a text
pub data IsBroken (text : List ℕ) : Type 0 where
  Value : (name value : List ℕ) → IsSet name text value → IsUnclosed value → IsBroken text
  Lock : (lock : List ℕ) → IsLockHead text lock → IsUnclosed lock → IsBroken text

-- the forms of the language; a mailbox and what isn't understood are what has none of them
abbrev pub HasForm : Situation → Kind → List ℕ → List ℕ → List ℕ → List ℕ → Type 0
HasForm situation Gap name text bytes behind = (name ≡ []) × (text ≡ []) × IsGap bytes behind
HasForm situation Condition name text bytes behind = (situation.in_recipe ≡ true) × (name ≡ []) × IsMarked STAR text bytes behind
HasForm situation Forward name text bytes behind = (situation.in_recipe ≡ true) × (name ≡ []) × IsMarked BANG text bytes behind
HasForm situation Pipe name text bytes behind =
    (situation.in_recipe ≡ true) × (name ≡ []) × IsMarked BAR text bytes behind × (AreBlanks 0 text behind → ⊥)
HasForm situation WriteOut name text bytes behind =
    (situation.in_recipe ≡ true) × (name ≡ []) × IsMarked BAR text bytes behind × AreBlanks 0 text behind
HasForm situation Capture name text bytes behind = (situation.in_recipe ≡ true) × IsCapture name text bytes behind
HasForm situation Open name text bytes behind =
    (situation.in_recipe ≡ true) × (name ≡ []) × (text ≡ OPEN_BRACE ∷ []) × (bytes ≡ OPEN_BRACE ∷ []) × IsOpened behind × (situation.depth < most_blocks)
HasForm situation TooDeep name text bytes behind =
    (situation.in_recipe ≡ true) × (name ≡ []) × (text ≡ OPEN_BRACE ∷ []) × (rest : List ℕ) × (bytes ≡ OPEN_BRACE ∷ rest) × IsOpened rest × (behind ≡ [])
    × (most_blocks ≤ situation.depth)
HasForm situation Close name text bytes behind = (0 < situation.depth) × (name ≡ []) × (text ≡ CLOSE_BRACE ∷ []) × (bytes ≡ CLOSE_BRACE ∷ [])
HasForm situation Colon name text bytes behind = (name ≡ []) × (bytes ≡ text) × IsColonLine (bytes ++ behind) behind
HasForm situation Assign name text bytes behind = (situation.in_recipe ≡ false) × IsSetting name text bytes behind
HasForm situation Unset name text bytes behind = (situation.in_recipe ≡ false) × (text ≡ []) × IsLoneName name bytes behind
HasForm situation _ name text bytes behind = ⊥

-- no form of the language begins a text
abbrev pub HasNone : Situation → List ℕ → Type 0
HasNone situation whole =
    (kind : Kind) (name text bytes behind : List ℕ) → whole ≡ bytes ++ behind → HasForm situation kind name text bytes behind → ⊥

-- a line of a recipe goes on here; a colon or a closing brace doesn't
abbrev pub goes_on : Situation → List ℕ → Bool
goes_on situation text = situation.in_recipe && not (begins_with CLOSE_BRACE text || begins_with COLON text)

-- the first line as written of a statement that is broken, or else a text to a line's end
pub data IsSkipped (text : List ℕ) (behind : List ℕ) : Type 0 where
  Broken : (first : ℕ) (rest : List ℕ) → text ≡ first ∷ rest → IsRest rest behind → IsBroken (text ++ behind) → IsSkipped text behind
  Other : (first : ℕ) (rest : List ℕ) → text ≡ first ∷ rest → IsTail false 0 rest behind → (IsBroken (text ++ behind) → ⊥) → IsSkipped text behind

-- what a mailbox looks like
abbrev pub IsMailbox : Situation → List ℕ → List ℕ → List ℕ → List ℕ → Type 0
IsMailbox situation name text bytes behind = (goes_on situation bytes ≡ true) × (name ≡ []) × (bytes ≡ text) × IsLine 0 text behind

-- what a text that isn't understood looks like
abbrev pub IsJunk : Situation → List ℕ → List ℕ → List ℕ → List ℕ → Type 0
IsJunk situation name text bytes behind = (goes_on situation bytes ≡ false) × (name ≡ []) × (bytes ≡ text) × IsSkipped text behind

-- how a span of this kind is spelled in a situation: its name, its text, its bytes, and what follows them
abbrev pub Spells : Situation → Kind → List ℕ → List ℕ → List ℕ → List ℕ → Type 0
Spells situation Mailbox name text bytes behind = IsMailbox situation name text bytes behind × HasNone situation (bytes ++ behind)
Spells situation Skipped name text bytes behind = IsJunk situation name text bytes behind × HasNone situation (bytes ++ behind)
Spells situation kind name text bytes behind = HasForm situation kind name text bytes behind

-- a span and the bytes that it takes
pub record Piece : Type 0 where
  pub span : Span
  pub bytes : List ℕ

-- the pieces of a text from a line on: each spells its kind in the situation that the ones before it left
abbrev pub IsCut : ℕ → Situation → List Piece → List ℕ → Type 0
IsCut line situation [] text = text ≡ []
IsCut line situation (piece ∷ pieces) text =
    (behind : List ℕ) × (text ≡ piece.bytes ++ behind) × (piece.span.line ≡ line) × (0 < length piece.bytes)
    × Spells situation piece.span.kind piece.span.name piece.span.text piece.bytes behind
    × IsCut (line + newlines piece.bytes) (situation_after piece.span.kind situation) pieces behind

-- the situation after pieces
abbrev pub end_of : Situation → List Piece → Situation
end_of situation [] = situation
end_of situation (piece ∷ pieces) = end_of (situation_after piece.span.kind situation) pieces

-- the spans of pieces
abbrev pub spans_of : List Piece → List Span
spans_of pieces = map (λ piece. piece.span) pieces
