-- The weight of a condition, and its text.
use Rattle.std.specs.Prelude.{ℕ, ◌+◌, ◌-◌, ◌*◌, List, [], ◌∷◌, ◌++◌, if◌then◌else◌, nat_eq, nat_lt, Bool, false, true, ◌&&◌, ◌||◌, take, drop, Option, Some, None, pos, neg_ℤ}
use Rattle.std.specs.List.{list_any}
use Rattle.pm_bytes.specs.Letter.{is_blank_byte, is_digit_byte}
use Rattle.pm_recipe.specs.Bytes.{begins_with}
use Rattle.pm_recipe.specs.Places.{far, text_after, rest_of}
use Rattle.pm_recipe.specs.declared.runs.Run.TheVariants as Run
use Rattle.pm_recipe.specs.declared.runs.UpTo.TheVariants as UpTo
use Rattle.pm_recipe.specs.declared.leads.InNumeral.TheVariants as InNumeral
use Rattle.pm_recipe.specs.declared.leads.InLead.{InLead}
use Rattle.pm_recipe.specs.Runs.{run_places, up_to_places}
use Rattle.pm_recipe.specs.Leads.{numeral_places, lead_places}
use Rattle.pm_recipe.specs.Joins.{unjoined, unindented}
use Rattle.pm_recipe.specs.Kept.{trimmed}
use Rattle.pm_bytes.specs.Alphabet.{DOLLAR, DOT, PLUS, MINUS, CARET, ZERO}
use Rattle.pm_recipe.specs.declared.tree.Weight.{Weight}
use Rattle.pm_recipe.specs.declared.tree.Weight.TheVariants as weight
use Rattle.pm_recipe.specs.declared.tree.Condition.{Condition}

-- the number that digits write after those that were read; a dot has no value
abbrev pub digits_value : ℕ → List ℕ → ℕ
digits_value value [] = value
digits_value value (byte ∷ bytes) = digits_value (10 * value + (byte - ZERO)) bytes

-- the number that digits and nothing else write, where it is at most this one
abbrev pub number_within : ℕ → List ℕ → Option ℕ
number_within most text =
    if list_any (λ byte. nat_eq DOT byte) text then None else
    if nat_lt most (digits_value 0 text) then None else Some (digits_value 0 text)

-- the digits after a sign, which may be absent
abbrev pub digits_of : List ℕ → List ℕ
digits_of text = if begins_with PLUS text || begins_with MINUS text then drop 1 text else text

-- the two numbers of a weight, where both are in their range
abbrev pub weight_of : Bool → Option ℕ → Option ℕ → Weight
weight_of negative None x = weight.Bad
weight_of negative (Some w) None = weight.Bad
weight_of negative (Some w) (Some x) = weight.Some (if negative then neg_ℤ (pos w) else pos w) (pos x)

-- the numeral at the front of a text, where there is a digit
abbrev pub numeral : List ℕ → List ℕ
numeral text = take (far numeral_places InNumeral.Sign text) text

-- whether there is a digit
abbrev pub has_digit : List ℕ → Bool
has_digit text = list_any is_digit_byte text

-- what stands after the caret
abbrev pub exponent : List ℕ → List ℕ
exponent text = drop 1 (text_after numeral_places InNumeral.Sign text)

-- a blank or the end
abbrev pub ends_word : List ℕ → Bool
ends_word [] = true
ends_word (byte ∷ bytes) = is_blank_byte byte

-- the greatest absolute value of a weight
abbrev pub most_weight : ℕ
most_weight = 2147483647

-- two numerals with a caret between them, and a blank or the end after
abbrev pub has_weight : List ℕ → Bool
has_weight text =
    has_digit (numeral text) && begins_with CARET (text_after numeral_places InNumeral.Sign text)
    && has_digit (numeral (exponent text)) && ends_word (text_after numeral_places InNumeral.Sign (exponent text))

-- an exponent that is minus nothing but zeros is zero
abbrev pub exponent_value : List ℕ → Option ℕ
exponent_value text = number_within (if begins_with MINUS text then 0 else 2147483647) (digits_of text)

-- the weight at the front of a text, if there is one
abbrev pub weight_at : List ℕ → Weight
weight_at text =
    if has_weight text
    then weight_of (begins_with MINUS text) (number_within most_weight (digits_of (numeral text))) (exponent_value (numeral (exponent text)))
    else weight.None

-- what follows the weight, where there is one
abbrev pub after_weight : List ℕ → List ℕ
after_weight text = if has_weight text then text_after run_places Run.Blanks (text_after numeral_places InNumeral.Sign (exponent text)) else text

-- whether nothing but a weight, blanks, inversions and names with two question marks can stand before this place
abbrev pub is_at_dollar : InLead → Bool
is_at_dollar InLead.Before = true
is_at_dollar _ = false

-- whether a dollar stands after nothing else
abbrev pub is_expanded : List ℕ → Bool
is_expanded text = is_at_dollar (rest_of lead_places false InLead.Before text) && begins_with DOLLAR (text_after lead_places InLead.Before text)

-- after such a dollar the blanks after a join stay
abbrev pub dollar_line : List ℕ → List ℕ
dollar_line text = unindented (take (far up_to_places UpTo.Dollar text) text) ++ unjoined (text_after up_to_places UpTo.Dollar text)

-- the line of a condition
abbrev pub condition_line : List ℕ → List ℕ
condition_line text =
    if is_expanded (after_weight (trimmed (unindented text))) then trimmed (dollar_line text) else trimmed (unindented text)

-- a condition, of what follows its star
abbrev pub condition_of : List ℕ → Condition
condition_of text = record { weight = weight_at (condition_line text); text = after_weight (condition_line text) }
