-- Forms of expressions (procmailrc(5), "Regular expressions").
use Rattle.std.specs.Prelude.{ℕ, Bool, false, not, ◌||◌, ◌&&◌, List, [], ◌∷◌, ◌++◌, ◌-◌, take, length, nat_eq, if◌then◌else◌, codes, pos}
use Rattle.std.specs.List.{starts_with, ends_with}
use Rattle.std.specs.Str.{bytes_eq}
use Rattle.pm_recipe.specs.declared.tree.Weight.{Weight}
use Rattle.check_moving.specs.Anchors.{is_match_begin}
use Rattle.check_moving.specs.Conditions.{is_above, is_size}
use Rattle.check_moving.specs.Kept.{kept}
use Rattle.check_moving.specs.Leads.{Front}
use Rattle.check_moving.specs.Ranges.{has_set}
use Rattle.check_moving.specs.Text.{has_part}
use Rattle.check_moving.specs.declared.form.Form.{Form}
use Rattle.check_moving.specs.declared.form.Form.TheVariants.{Search}
use Rattle.check_moving.specs.declared.form.SearchForm.TheVariants as form

-- each match counts
abbrev pub is_counted : Weight → Bool
is_counted worth = is_above (pos 0) worth

-- neither a size nor a program's line
abbrev pub is_search : List ℕ → Bool
is_search text = not (is_size text) && not (starts_with nat_eq text (codes "?"))

-- a double quote in a text that is expanded
abbrev pub is_quoted : Front → Bool
is_quoted front = front.expands && has_part (codes "\"") front.text && not (has_part (codes "\\\"") front.text)

-- `\/`
abbrev pub matches : List ℕ → Bool
matches text = has_part (codes "\\/") text

-- after a `!`
abbrev pub is_inverted_match : Front → Bool
is_inverted_match front = front.inverted && matches front.text

-- an anchor comes last
abbrev pub ends_anchored : List ℕ → Bool
ends_anchored text =
    (ends_with nat_eq text (codes "$") && not (ends_with nat_eq text (codes "\\$")))
    || ends_with nat_eq text (codes "\\<") || ends_with nat_eq text (codes "\\>")

-- without these bytes at the end
abbrev pub without_end : List ℕ → List ℕ → List ℕ
without_end close text = if ends_with nat_eq text close then take (length text - length close) text else text

-- up to the end of a line or a word, maybe in parentheses
abbrev pub is_match_end : List ℕ → Bool
is_match_end text =
    matches text
    && (ends_anchored text || ends_anchored (without_end (codes ")") text) || ends_anchored (without_end (codes ")*") text)
    || ends_anchored (without_end (codes ")+") text))

-- counted
abbrev pub is_weighted_match : Weight → List ℕ → Bool
is_weighted_match worth text = is_counted worth && matches text

-- the end of a line and the beginning of the next one
abbrev pub is_two_anchors : List ℕ → Bool
is_two_anchors text =
    has_part (codes "$^") text && not (has_part (codes "\\$^") text) && not (ends_with nat_eq text (codes "$^^"))

-- two blanks or a tab
abbrev pub has_blanks : List ℕ → Bool
has_blanks text = has_part (codes "  ") text || has_part (codes "\t") text

-- no set, and no weight or name after which blanks may stand
abbrev pub is_plain : List ℕ → Bool
is_plain text = not (has_part (codes "[") text) && not (has_part (codes "??") text) && not (has_part (codes "^0") text)

-- blanks that are looked for in the header
abbrev pub is_two_blanks : Front → Bool
is_two_blanks front = not front.named && has_blanks front.text && is_plain front.text

-- one byte with `*` or `?`
abbrev pub is_repeated : List ℕ → Bool
is_repeated (byte ∷ (sign ∷ [])) = not (nat_eq byte 92) && (nat_eq sign 42 || nat_eq sign 63)
is_repeated _ = false

-- what matches no bytes, too
abbrev pub is_empty : List ℕ → Bool
is_empty text = bytes_eq text (codes "") || bytes_eq text (codes "()") || is_repeated text

-- counted
abbrev pub is_empty_match : Weight → List ℕ → Bool
is_empty_match worth text = is_counted worth && is_empty text

-- each line, counted
abbrev pub is_line_count : Weight → List ℕ → Bool
is_line_count worth text = is_counted worth && ends_with nat_eq text (codes "^.*$")

-- the forms of an expression with this weight and front
abbrev pub searched : Weight → Front → List (Bool × Form)
searched worth front =
    (starts_with nat_eq front.text (codes "\\"), Search form.Backslash)
    ∷ (is_quoted front, Search form.Quote)
    ∷ (is_two_anchors front.text, Search form.TwoAnchors)
    ∷ (is_two_blanks front, Search form.TwoBlanks)
    ∷ (is_empty_match worth front.text, Search form.EmptyMatch)
    ∷ (is_line_count worth front.text, Search form.LineCount)
    ∷ (has_set false front.text, Search form.Range)
    ∷ []

-- those of its `\/`, where the variables of these names begin with an anchor
abbrev pub matched : List (List ℕ) → Weight → Front → List (Bool × Form)
matched names worth front =
    (is_inverted_match front, Search form.InvertedMatch)
    ∷ (is_match_end front.text, Search form.MatchEnd)
    ∷ (is_match_begin names front, Search form.MatchBegin)
    ∷ (is_weighted_match worth front.text, Search form.WeightedMatch)
    ∷ []

-- those of a condition: none, where it asks for something else
abbrev pub searched_by : List (List ℕ) → Weight → Front → List Form
searched_by names worth front =
    if is_search front.text then kept (searched worth front) ++ kept (matched names worth front) else []
