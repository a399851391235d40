-- What can take a newline at the beginning of MATCH (procmailrc(5), "Regular expressions").
use Rattle.std.specs.Prelude.{ℕ, ◌+◌, ◌-◌, Bool, true, false, not, ◌||◌, ◌&&◌, List, [], ◌∷◌, drop, take, length, nat_eq, if◌then◌else◌, codes}
use Rattle.std.specs.List.{starts_with, list_any}
use Rattle.std.specs.Str.{bytes_eq}
use Rattle.pm_bytes.specs.Alphabet.{BACKSLASH, BAR, CARET, NEWLINE, OPEN_BRACKET, CLOSE_BRACKET, OPEN_PARENTHESIS, CLOSE_PARENTHESIS}
use Rattle.check_moving.specs.Leads.{Front}
use Rattle.check_moving.specs.Text.{behind_name, has_part}
use Rattle.check_moving.specs.declared.spots.Spot.{Spot}
use Rattle.check_moving.specs.declared.spots.Spot.TheVariants.{Plain, Escaped, Open, Negated, Member}

-- `\<` or `\>`
abbrev pub is_word_edge : List ℕ → Bool
is_word_edge text = starts_with nat_eq text (codes "\\<") || starts_with nat_eq text (codes "\\>")

-- `^`, and not `^^`, which takes no byte
abbrev pub is_line_start : List ℕ → Bool
is_line_start text = starts_with nat_eq text (codes "^") && not (starts_with nat_eq text (codes "^^"))

-- nothing, `)` or `|`
abbrev pub ends_part : List ℕ → Bool
ends_part [] = true
ends_part (byte ∷ rest) = nat_eq byte CLOSE_PARENTHESIS || nat_eq byte BAR

-- a `$` that no name follows, where the text is expanded
abbrev pub is_line_end : Bool → List ℕ → Bool
is_line_end expands text = starts_with nat_eq text (codes "$") && (not expands || ends_part (drop 1 text))

-- a name, maybe after a brace
abbrev pub name_on : List ℕ → List ℕ
name_on text = if starts_with nat_eq text (codes "{") then drop 1 text else text

abbrev pub name_at : List ℕ → List ℕ
name_at text = take (length (name_on text) - length (behind_name (name_on text))) (name_on text)

-- one of these names
abbrev pub has_name : List (List ℕ) → List ℕ → Bool
has_name names name = list_any (λ other. bytes_eq other name) names

-- the variable of one of these names
abbrev pub is_variable_of : List (List ℕ) → List ℕ → Bool
is_variable_of names text = starts_with nat_eq text (codes "$") && has_name names (name_at (drop 1 text))

-- an anchor is next: here, or in the value of one of these variables
abbrev pub is_anchor : Bool → List (List ℕ) → List ℕ → Bool
is_anchor expands names text =
    is_word_edge text || is_line_start text || is_line_end expands text || (expands && is_variable_of names text)

-- what the next byte is, after one that is neither escaped nor in a set
abbrev pub plain_spot : ℕ → Spot
plain_spot byte = if nat_eq byte BACKSLASH then Escaped else if nat_eq byte OPEN_BRACKET then Open else Plain

-- what the next byte is
abbrev pub spot_after : Spot → ℕ → Spot
spot_after Plain byte = plain_spot byte
spot_after Escaped byte = Plain
spot_after Open byte = if nat_eq byte CARET then Negated else Member
spot_after Negated byte = Member
spot_after Member byte = if nat_eq byte CLOSE_BRACKET then Plain else Member

-- outside of a set, and not escaped
abbrev pub is_plain : Spot → Bool
is_plain Plain = true
is_plain _ = false

-- whether nothing was matched yet after a byte, in the alternative that goes on there: so many open groups began after
-- something was matched
abbrev pub fresh_after : Spot → Bool → ℕ → ℕ → Bool
fresh_after Plain fresh inner byte =
    if nat_eq byte BAR then nat_eq inner 0
    else fresh && (nat_eq byte OPEN_PARENTHESIS || nat_eq byte CLOSE_PARENTHESIS || nat_eq byte BACKSLASH)
fresh_after Escaped fresh inner byte = fresh && nat_eq byte NEWLINE
fresh_after _ fresh inner byte = false

-- and how many groups are open then
abbrev pub inner_after : Spot → Bool → ℕ → ℕ → ℕ
inner_after Plain fresh inner byte =
    if nat_eq byte OPEN_PARENTHESIS && not fresh then inner + 1
    else if nat_eq byte CLOSE_PARENTHESIS then inner - 1
    else inner
inner_after _ fresh inner byte = inner

-- whether an anchor comes before all else, in this alternative or in a later one of the groups that nothing was matched
-- before
abbrev pub anchors_from : Bool → List (List ℕ) → Spot → Bool → ℕ → List ℕ → Bool
anchors_from expands names spot fresh inner [] = false
anchors_from expands names spot fresh inner (byte ∷ rest) =
    (is_plain spot && fresh && is_anchor expands names (byte ∷ rest))
    || anchors_from expands names (spot_after spot byte) (fresh_after spot fresh inner byte) (inner_after spot fresh inner byte) rest

-- an expression begins with an anchor
abbrev pub begins_anchored : Bool → List (List ℕ) → List ℕ → Bool
begins_anchored expands names text = anchors_from expands names Plain true 0 text

-- what is on the right of `\/`
abbrev pub after_cut : List ℕ → List ℕ
after_cut [] = []
after_cut (byte ∷ rest) = if starts_with nat_eq (byte ∷ rest) (codes "\\/") then drop 1 rest else after_cut rest

-- MATCH can begin with a newline
abbrev pub is_match_begin : List (List ℕ) → Front → Bool
is_match_begin names front = not front.inverted && begins_anchored front.expands names (after_cut front.text)

-- a single quote comes first
abbrev pub is_single : List ℕ → Bool
is_single value = starts_with nat_eq value (codes "'")

-- the expression in a value: in quotes, or without a backslash, which is taken out of one without quotes
abbrev pub given_by : List ℕ → List ℕ
given_by value =
    if is_single value || starts_with nat_eq value (codes "\"") then drop 1 value
    else if has_part (codes "\\") value then []
    else value

-- a value begins with an anchor
abbrev pub is_anchored : List (List ℕ) → List ℕ → Bool
is_anchored names value = begins_anchored (not (is_single value)) names (given_by value)
