-- What stands at the front of an rcfile's text, by its first bytes and the situation.
use Rattle.std.specs.Prelude.{ℕ, ◌-◌, List, [], ◌∷◌, if◌then◌else◌, nat_eq, nat_le, nat_lt, Bool, true, not, ◌&&◌, ◌||◌, length, take, drop}
use Rattle.pm_bytes.specs.Letter.{is_name_start, is_space_byte}
use Rattle.pm_recipe.specs.Bytes.{begins_with}
use Rattle.pm_recipe.specs.Places.{passed, text_after}
use Rattle.pm_recipe.specs.declared.runs.Run.TheVariants as Run
use Rattle.pm_recipe.specs.declared.runs.UpTo.TheVariants as UpTo
use Rattle.pm_recipe.specs.declared.line_words.InTail.TheVariants as InTail
use Rattle.pm_recipe.specs.Runs.{run_places, up_to_places}
use Rattle.pm_recipe.specs.LineWords.{tail_places}
use Rattle.pm_recipe.specs.Colon.{word_length, is_unclosed, begins_recipe, has_lock, lock_part, behind_colon}
use Rattle.pm_bytes.specs.Alphabet.{NEWLINE, HASH, STAR, OPEN_BRACE, CLOSE_BRACE, COLON, EQUALS, BAR, BANG, BACKSLASH}
use Rattle.pm_recipe.specs.declared.fronts.Front as code
use Rattle.pm_recipe.specs.declared.fronts.Situation.{Situation}
use Rattle.pm_recipe.specs.declared.fronts.Kind.{Kind}
use Rattle.pm_recipe.specs.declared.fronts.Kind.TheVariants.{Gap, Colon, Condition, Mailbox, Pipe, WriteOut, Capture, Forward, Open, TooDeep, Close, Assign, Unset, Skipped}

-- the front of a text: a span's kind, its name and its text, and what is after the span
pub record Front : Type 0 where
  pub kind : Kind
  pub name : List ℕ
  pub text : List ℕ
  pub behind : List ℕ

-- a front of the code
abbrev pub front_in : code.Front → Front
front_in front = record { kind = front.kind; name = front.name.now; text = front.text.now; behind = front.behind.now }

-- what stands in a text before what is left of it
abbrev pub before : List ℕ → List ℕ → List ℕ
before text left = take (length text - length left) text

-- a span of this kind, with its name and its text, and what is after it
abbrev pub piece : Kind → List ℕ → List ℕ → List ℕ → Front
piece kind name text behind = record { kind = kind; name = name; text = text; behind = behind }

-- bytes that are no part of a statement, before these
abbrev pub gap : List ℕ → Front
gap behind = piece Gap [] [] behind

-- a span whose text is all that stands before these bytes
abbrev pub whole_front : Kind → List ℕ → List ℕ → Front
whole_front kind text behind = piece kind [] (before text behind) behind

-- a span whose text is a line, which begins here
abbrev pub line_front : Kind → List ℕ → Front
line_front kind text = piece kind [] (passed run_places Run.Line text) (text_after run_places Run.Line text)

-- a span of one byte
abbrev pub byte_front : Kind → List ℕ → Front
byte_front kind text = piece kind [] (take 1 text) (drop 1 text)

-- what isn't understood, up to a newline that isn't joined; its first byte begins no comment
abbrev pub skipped : List ℕ → Front
skipped text = whole_front Skipped text (text_after tail_places InTail.Word (drop 1 text))

-- the first line of a statement whose quote isn't closed
abbrev pub unclosed : List ℕ → Front
unclosed text = whole_front Skipped text (text_after up_to_places UpTo.Newline (drop 1 text))

-- an assignment to this name, and what follows its `=` and blanks
abbrev pub assignment : List ℕ → List ℕ → List ℕ → Front
assignment text name value =
    if is_unclosed value then unclosed text else piece Assign name (take (word_length value) value) (drop (word_length value) value)

-- after a name there is a blank, a newline or the end
abbrev pub ends_name : List ℕ → Bool
ends_name [] = true
ends_name (byte ∷ bytes) = is_space_byte byte

-- from a name on: what follows it and its blanks
abbrev pub behind_name : List ℕ → List ℕ
behind_name text = text_after run_places Run.Blanks (text_after run_places Run.Name text)

-- what follows the `=` after a name, and its blanks
abbrev pub after_equals : List ℕ → List ℕ
after_equals text = text_after run_places Run.Blanks (drop 1 (behind_name text))

-- a name at the front: an assignment, an unsetting or neither
abbrev pub named : List ℕ → Front
named text =
    if begins_with EQUALS (behind_name text) then assignment text (passed run_places Run.Name text) (after_equals text) else
    if ends_name (text_after run_places Run.Name text) then piece Unset (passed run_places Run.Name text) [] (text_after run_places Run.Name text) else skipped text

-- a colon line, whose lock's quotes must be closed
abbrev pub colon_front : List ℕ → Front
colon_front text =
    if has_lock text && is_unclosed (lock_part text) then unclosed text else whole_front Colon text (behind_colon text)

-- a statement at its first byte
abbrev pub statement_of : Bool → List ℕ → Front
statement_of in_block [] = gap []
statement_of in_block (byte ∷ bytes) =
    if nat_eq byte CLOSE_BRACE && in_block then byte_front Close (byte ∷ bytes) else
    if begins_recipe (byte ∷ bytes) then colon_front (byte ∷ bytes) else
    if is_name_start byte then named (byte ∷ bytes) else skipped (byte ∷ bytes)

-- whether a brace before this begins a block
abbrev pub opens : List ℕ → Bool
opens text = ends_name (text_after run_places Run.Joins text)

-- whether a line ends here
abbrev pub ends_line : List ℕ → Bool
ends_line [] = true
ends_line (byte ∷ bytes) = nat_eq byte NEWLINE

-- whether a name, an `=` and a bar begin the text
abbrev pub captures : List ℕ → Bool
captures text = begins_with EQUALS (behind_name text) && begins_with BAR (after_equals text)

-- a name, and the line after the bar
abbrev pub capture : List ℕ → Front
capture text =
    let line = drop 1 (after_equals text) in
    piece Capture (passed run_places Run.Name text) (passed run_places Run.Line line) (text_after run_places Run.Line line)

-- a mailbox, or a capture
abbrev pub other_action : List ℕ → Front
other_action [] = gap []
other_action (byte ∷ bytes) =
    if is_name_start byte && captures (byte ∷ bytes) then capture (byte ∷ bytes)
    else whole_front Mailbox (byte ∷ bytes) (text_after run_places Run.Line bytes)

-- a block begins, or is nested too deep, which ends the reading
abbrev pub brace : Bool → List ℕ → Front
brace deep text = if deep then piece TooDeep [] (take 1 text) [] else byte_front Open text

-- a line of a recipe
abbrev pub recipe_line : Bool → List ℕ → Front
recipe_line deep [] = gap []
recipe_line deep (byte ∷ bytes) =
    if nat_eq byte STAR then line_front Condition bytes else
    if nat_eq byte OPEN_BRACE && opens bytes then brace deep (byte ∷ bytes) else
    if nat_eq byte BANG then line_front Forward bytes else
    if nat_eq byte BAR then (if ends_line (text_after run_places Run.Blanks bytes) then line_front WriteOut bytes else line_front Pipe bytes)
    else other_action (byte ∷ bytes)

-- as many blocks may be nested
abbrev pub most_blocks : ℕ
most_blocks = 1000

-- blanks, newlines, joins and comments stand between statements and between the lines of a recipe
abbrev pub front_of : Situation → List ℕ → Front
front_of situation [] = gap []
front_of situation (byte ∷ bytes) =
    if is_space_byte byte then gap bytes else
    if nat_eq byte BACKSLASH && begins_with NEWLINE bytes then gap (drop 1 bytes) else
    if nat_eq byte HASH then gap (text_after up_to_places UpTo.Newline bytes) else
    if situation.in_recipe && not (nat_eq byte CLOSE_BRACE || nat_eq byte COLON) then recipe_line (nat_le most_blocks situation.depth) (byte ∷ bytes)
    else statement_of (nat_lt 0 situation.depth) (byte ∷ bytes)
