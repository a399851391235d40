-- What formail writes.
use Rattle.std.specs.Prelude.{◌≡◌, ◌⊎◌, ℕ, Bool, true, nat_eq, nat_lt, Option, Some, None, List, [], ◌∷◌, ◌++◌, ◌+◌, ◌-◌, drop, take, length, codes, if◌then◌else◌}
use Rattle.std.specs.List.{starts_with, ends_with, flat_map, concat, prefix_len, suffix_len}
use Rattle.pm_bytes.specs.Letter.{is_space_byte}
use Rattle.pm_message.specs.Lines.{lines}
use Rattle.pm_message.specs.Piece.{ended}
use Rattle.pm_message.specs.Field.{texts_of}
use Rattle.pm_message.specs.declared.head.Message.{Message}
use Rattle.formail_edit.specs.Keyed.{Keyed, keyed, content_in, means}
use Rattle.formail_edit.specs.Step.{edited_fields}
use Rattle.formail_edit.specs.declared.edits.Take.{Take}
use Rattle.formail_edit.specs.declared.edits.Edits.{Edits}

-- a line of the body that starts with `From ` gets the prefix before it
abbrev pub prefixed_line : List ℕ → List ℕ → List ℕ
prefixed_line prefix line = if starts_with nat_eq line (codes "From ") then prefix ++ line else line

-- the body under these edits: it has the prefixes, or under `-b` stays as it is
abbrev pub body_for : Edits → List ℕ → List ℕ
body_for edits body = if edits.keep_body then body else flat_map (prefixed_line edits.prefix) (lines body)

-- the body comes as it is, and ends what it stands after as in a mailbox, unless `-f` stands
pub record Stays (edits : Edits) (body : List ℕ) : Type 0 where
  pub plain : body_for edits body ≡ body
  pub closed : (edits.keep_from ≡ true) ⊎ (ends_with nat_eq body (codes "\n\n") ≡ true)

-- a text without the blanks and newlines at its end
abbrev pub without_back : List ℕ → List ℕ
without_back text = take (length text - suffix_len is_space_byte text) text

-- and without those at both ends
abbrev pub trimmed : List ℕ → List ℕ
trimmed text = without_back (drop (prefix_len is_space_byte text) text)

-- under `-z` a content is taken trimmed, and with a newline
abbrev pub content_for : Bool → List ℕ → List ℕ
content_for zap content = if zap then trimmed content ++ codes "\n" else content

-- `-X` takes a field as it is, and `-x` what follows its name
abbrev pub extracted : Bool → Keyed → Take → List ℕ
extracted zap field wanted = if wanted.whole then field.text else content_for zap (content_in field)

-- what one `-x` or `-X` gives of a field: nothing if it doesn't mean the field
abbrev pub extraction : Bool → Keyed → Take → List ℕ
extraction zap field wanted = if means wanted.name field then extracted zap field wanted else []

-- each field gives this once for each `-x` and `-X` that means it
abbrev pub taken_from : Edits → Keyed → List ℕ
taken_from edits field = flat_map (extraction edits.zap field) edits.takes

-- what the fields give where `-x` or `-X` stands, under `-k` with the body
abbrev pub taken : Edits → List (List ℕ) → List ℕ → List ℕ
taken edits texts body =
    flat_map (taken_from edits) (keyed true texts)
    ++ (if edits.with_body then codes "\n" ++ body_for edits body else [])

-- the line to put in front, where there is one
abbrev pub front_of : Option (List ℕ) → List ℕ
front_of None = []
front_of (Some line) = line

-- the mail with its new fields, ended as in a mailbox unless `-f` stands
abbrev pub mail_of : Edits → List (List ℕ) → List ℕ → Option (List ℕ) → List ℕ
mail_of edits texts body from =
    let text = front_of from ++ concat texts ++ codes "\n" ++ body_for edits body in
    if edits.keep_from then text else ended text

-- `-x` or `-X` stands
abbrev pub is_taking : Edits → Bool
is_taking edits = nat_lt 0 (length edits.takes)

-- the output
abbrev pub edited : Message → Edits → Option (List ℕ) → List ℕ
edited message edits from =
    let texts = edited_fields edits (texts_of message.head) in
    if is_taking edits then taken edits texts message.body else mail_of edits texts message.body from
