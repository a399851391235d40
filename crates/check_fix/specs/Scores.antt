-- Weights by the score of the last recipe, as docs/MOVING.md, "Recipes and conditions", has them.
use Rattle.std.specs.Prelude.{ℕ, Bool, true, false, not, ◌||◌, ◌&&◌, List, [], ◌∷◌, ◌++◌, drop, length, nat_eq, codes, if◌then◌else◌, position}
use Rattle.std.specs.List.{starts_with}
use Rattle.std.specs.Str.{bytes_eq}
use Rattle.pm_bytes.specs.Letter.{is_blank_byte}
use Rattle.pm_recipe.specs.Colon.{flags_of, flags_part}
use Rattle.pm_recipe.specs.declared.fronts.Kind.{Kind}
use Rattle.pm_recipe.specs.declared.fronts.Kind.TheVariants as kind
use Rattle.pm_recipe.specs.declared.spans.Span.{Span}
use Rattle.pm_recipe.specs.declared.tree.Flags.{Flags}
use Rattle.check_moving.specs.Conditions.{after_sign}
use Rattle.check_moving.specs.Text.{after_blanks, from_place, has_part}
use Rattle.check_fix.specs.Braces.{ends_word}
use Rattle.check_fix.specs.Conditions.{after_star, begins_weight, is_lead_byte, late_weight}
use Rattle.check_fix.specs.Copies.{is_between, is_closing, is_colon}
use Rattle.check_fix.specs.Edits.{edit_at}
use Rattle.check_fix.specs.Numbers.{after_whole, is_opening, keep_value}
use Rattle.check_fix.specs.Parts.{before, after_digits, is_above}
use Rattle.check_fix.specs.Values.{is_gap}
use Rattle.check_fix.specs.declared.edits.Edit.{Edit}
use Rattle.check_fix.specs.declared.scores.Score.{Score}

-- a condition that is expanded, without its `$`
abbrev pub after_dollar : List ℕ → List ℕ
after_dollar text =
    if starts_with nat_eq (after_star text) (codes "$") then after_blanks (drop 1 (after_star text)) else []

-- `* $ $=^0`
abbrev pub is_score : List ℕ → Bool
is_score text = bytes_eq (after_dollar text) (codes "$=^0")

-- a weight of 2147483647 or more, once
abbrev pub is_greatest : List ℕ → Bool
is_greatest text =
    is_above 2147483646 text && starts_with nat_eq (after_digits text) (codes "^0") && ends_word (drop 2 (after_digits text))

-- from the first byte on that doesn't stand before an expression
abbrev pub after_lead : List ℕ → List ℕ
after_lead text = from_place text (position (λ byte. not (is_lead_byte byte || is_blank_byte byte)) text)

-- a digit or a sign
abbrev pub begins_number : List ℕ → Bool
begins_number [] = false
begins_number (byte ∷ rest) = begins_weight byte

-- no weight at the front, and none that a variable can give
abbrev pub is_bare : List ℕ → Bool
is_bare text =
    not (begins_number text) && not (has_part (codes "$") (before text (after_lead text)))
    && not (starts_with nat_eq (after_lead text) (codes "."))

-- no weight at all
abbrev pub is_plain : List ℕ → Bool
is_plain text = is_bare (after_star text) && bytes_eq (late_weight text) []

-- a condition after which the score is 0 or 2147483647, where that of the recipe before is so or isn't
abbrev pub keeps_end : Bool → List ℕ → Bool
keeps_end last text = if is_score text then last else is_greatest (after_star text) || is_plain text

-- a recipe that looks at no other
abbrev pub is_first : Flags → Bool
is_first flags = not (flags.and_chain || flags.and_ok) && not (flags.or_else || flags.on_error)

-- whether the score of the recipe before is one of these numbers, behind a span
abbrev pub last_after : Kind → Bool → Bool → Bool
last_after kind last this = if is_colon kind then this else last

-- and that of this recipe; a block is empty
abbrev pub this_within : Span → Bool → Bool → Bool → Bool
this_within span last this begun =
    if is_between span.kind then this && keeps_end last span.bytes.now
    else this && (is_opening span.kind || (is_closing span.kind && begun))

abbrev pub this_after : Span → Bool → Bool → Bool → Bool
this_after span last this begun =
    if is_gap span.kind then this
    else if is_colon span.kind then is_first (flags_of (flags_part span.bytes.now))
    else this_within span last this begun

-- whether a block has just begun
abbrev pub open_after : Kind → Bool → Bool
open_after kind begun = is_opening kind || (is_gap kind && begun)

-- before all spans
abbrev pub no_score : Score
no_score = record { last = false; this = false; begun = false }

-- behind a span
abbrev pub score_after : Span → Score → Score
score_after span score = record {
  last = last_after span.kind score.last score.this;
  this = this_after span score.last score.this score.begun;
  begun = open_after span.kind score.begun;
}

-- no other value is given to the variable that gets the score
abbrev pub is_free : List Span → Bool
is_free spans = keep_value (codes "LASTSCORE") (codes "$=") spans

-- a weight
abbrev pub begins_weighted : List ℕ → Bool
begins_weighted text = begins_number text && starts_with nat_eq (after_digits (after_sign text)) (codes "^")

-- `${X:+5^0 ..}`: a weight or nothing
abbrev pub is_optional : List ℕ → Bool
is_optional text =
    starts_with nat_eq text (codes "${") && starts_with nat_eq (after_whole text) (codes ":+")
    && begins_weighted (drop 2 (after_whole text))

-- a condition that need not hold
abbrev pub is_weighted : List ℕ → Bool
is_weighted text = begins_weighted (after_star text) || is_optional (after_dollar text)

-- all conditions that come next are such ones
abbrev pub are_weighted : List Span → Bool
are_weighted [] = false
are_weighted (span ∷ spans) =
    if not (is_between span.kind) then true
    else (is_gap span.kind || is_weighted span.bytes.now) && are_weighted spans

-- a block ends next
abbrev pub closes_next : List Span → Bool
closes_next [] = false
closes_next (span ∷ spans) = if is_gap span.kind then closes_next spans else is_closing span.kind

-- a block that does nothing
abbrev pub is_empty_block : List Span → Bool
is_empty_block [] = false
is_empty_block (span ∷ spans) = is_opening span.kind && closes_next spans

-- from the first span on that is something
abbrev pub after_gaps : List Span → List Span
after_gaps [] = []
after_gaps (span ∷ spans) = if is_gap span.kind then after_gaps spans else span ∷ spans

-- the first condition, and those behind it
abbrev pub scores_first : List Span → List Span → Bool
scores_first [] action = false
scores_first (span ∷ spans) action =
    is_between span.kind && is_score span.bytes.now && (are_weighted spans || is_empty_block action)

-- a recipe with these spans behind its colon line, its action and what follows, where the score of the recipe before is one
-- of these numbers
abbrev pub is_scored : Bool → List Span → List Span → Bool
is_scored ended spans action = ended && scores_first (after_gaps spans) action

-- the score as a variable, before the recipe
abbrev pub name_edits : Span → List Span → List Span → Bool → List Edit
name_edits span spans action ended =
    if is_scored ended spans action then edit_at span.first span.bytes.now span.bytes.now 0 (codes "LASTSCORE=$=\n") else []

abbrev pub greatest_of : List Span → List Edit
greatest_of [] = []
greatest_of (span ∷ spans) =
    edit_at span.first span.bytes.now (after_star span.bytes.now) (length (after_star span.bytes.now))
    (codes "2147483647^0 LASTSCORE ?? ^^2147483647^^")

-- and its condition: `* 2147483647^0 LASTSCORE ?? ^^2147483647^^`
abbrev pub score_edits : List Span → List Span → Bool → List Edit
score_edits spans action ended = if is_scored ended spans action then greatest_of (after_gaps spans) else []
