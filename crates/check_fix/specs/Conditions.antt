-- Conditions, as docs/MOVING.md, "Recipes and conditions", has them. The text of each begins with its star.
use Rattle.std.specs.Prelude.{ℕ, ◌-◌, Bool, true, false, not, ◌||◌, ◌&&◌, List, [], ◌∷◌, ◌++◌, drop, length, nat_eq, codes, if◌then◌else◌, position}
use Rattle.std.specs.List.{starts_with, ends_with, list_all}
use Rattle.pm_bytes.specs.Letter.{is_blank_byte, is_digit_byte, is_name_byte}
use Rattle.pm_recipe.specs.Weights.{condition_of}
use Rattle.pm_recipe.specs.declared.tree.Weight.{Weight}
use Rattle.pm_recipe.specs.declared.tree.Weight.TheVariants as weight
use Rattle.check_moving.specs.Conditions.{after_sign, is_size}
use Rattle.check_moving.specs.Text.{after_blanks, from_place, has_part}
use Rattle.check_fix.specs.Edits.{edit_at}
use Rattle.check_fix.specs.Parts.{before, after_digits, from_blank, from_part, is_above}
use Rattle.check_fix.specs.declared.edits.Edit.{Edit}

-- what follows the star and blanks
abbrev pub after_star : List ℕ → List ℕ
after_star text = after_blanks (drop 1 text)

-- a weight that can't be read
abbrev pub is_bad : Weight → Bool
is_bad weight.Bad = true
is_bad _ = false

-- digits above the greatest weight, and the caret of a weight
abbrev pub is_great : List ℕ → Bool
is_great text = is_above 2147483647 text && starts_with nat_eq (after_digits text) (codes "^")

-- the first number of a weight above the greatest, and what follows
abbrev pub great_number : List ℕ → List ℕ
great_number text = if is_great (after_sign (after_star text)) then after_sign (after_star text) else []

-- `* 9876543210^0`: `* 2147483647^0`
abbrev pub great_edits : ℕ → List ℕ → List Edit
great_edits first text =
    if is_bad (condition_of (drop 1 text)).weight
    then edit_at first text (great_number text)
    (length (before (great_number text) (after_digits (great_number text)))) (codes "2147483647")
    else []

-- without a `!`
abbrev pub after_bang : List ℕ → List ℕ
after_bang text = if starts_with nat_eq text (codes "!") then after_blanks (drop 1 text) else text

-- a size that a variable gives
abbrev pub is_variable_size : List ℕ → Bool
is_variable_size text = is_size text && starts_with nat_eq (after_blanks (drop 1 text)) (codes "$")

-- `* < $SIZE`: `* $ < $SIZE`
abbrev pub size_edits : ℕ → List ℕ → List Edit
size_edits first text =
    if is_variable_size (after_bang (after_star text)) then edit_at first text (after_star text) 0 (codes "$ ") else []

-- a digit or a sign
abbrev pub begins_weight : ℕ → Bool
begins_weight byte = is_digit_byte byte || nat_eq byte 43 || nat_eq byte 45

-- `$`, `!`, or the end of `??`
abbrev pub ends_lead : ℕ → Bool
ends_lead byte = nat_eq byte 36 || nat_eq byte 33 || nat_eq byte 63

-- a byte of what stands before an expression
abbrev pub is_lead_byte : ℕ → Bool
is_lead_byte byte = is_name_byte byte || ends_lead byte

-- from a weight on after `$`, `!` or `??` and a blank: after this byte, and after a blank or not
abbrev pub weight_from : ℕ → Bool → List ℕ → List ℕ
weight_from last gap [] = []
weight_from last gap (byte ∷ rest) =
    if is_blank_byte byte then weight_from last true rest
    else if gap && ends_lead last && begins_weight byte then byte ∷ rest
    else if is_lead_byte byte then weight_from byte false rest
    else []

-- of a condition
abbrev pub late_weight : List ℕ → List ℕ
late_weight text = weight_from 0 false (after_star text)

-- the word at the front
abbrev pub word_of : List ℕ → List ℕ
word_of text = before text (from_blank text)

-- a byte of a weight of whole numbers
abbrev pub is_weight_byte : ℕ → Bool
is_weight_byte byte = begins_weight byte || nat_eq byte 94

-- such a weight
abbrev pub is_whole : List ℕ → Bool
is_whole word = has_part (codes "^") word && list_all is_weight_byte word

-- a blank, if none follows the star
abbrev pub blank_before : List ℕ → List ℕ
blank_before text = if starts_with nat_eq (drop 1 text) (codes " ") then [] else codes " "

-- the weight, and then what was before it
abbrev pub weight_first : List ℕ → List ℕ
weight_first text =
    ((blank_before text ++ word_of (late_weight text)) ++ codes " ") ++ before (after_star text) (late_weight text)

-- the bytes up to what follows the weight
abbrev pub late_length : List ℕ → ℕ
late_length text = length (after_star text) - length (after_blanks (from_blank (late_weight text)))

-- `* B ?? 1^1 ..`: `* 1^1 B ?? ..`
abbrev pub late_edits : ℕ → List ℕ → List Edit
late_edits first text =
    if is_whole (word_of (late_weight text))
    then edit_at first text (after_star text) (late_length text) (weight_first text) else []

-- a variable of this length: the greatest weight
abbrev pub greatest_at : ℕ → List ℕ → List ℕ → ℕ → List Edit
greatest_at first text part count = edit_at first text (from_part part text) count (codes "2147483647")

-- `$SUPREME^0`: `2147483647^0`
abbrev pub supreme_edits : ℕ → List ℕ → List Edit
supreme_edits first text =
    greatest_at first text (codes "$SUPREME^0") 8 ++ (greatest_at first text (codes "$SUPREME^1") 8
    ++ (greatest_at first text (codes "${SUPREME}^0") 10 ++ greatest_at first text (codes "${SUPREME}^1") 10))

-- a byte that can stand between the star and an expression
abbrev pub is_front_byte : ℕ → Bool
is_front_byte byte = is_blank_byte byte || is_lead_byte byte || is_weight_byte byte || nat_eq byte 46

-- the expression, if nothing of it is such a byte
abbrev pub after_front : List ℕ → List ℕ
after_front text = from_place (drop 1 text) (position (λ byte. not (is_front_byte byte)) (drop 1 text))

-- a backslash that joins no lines
abbrev pub is_escape : List ℕ → Bool
is_escape text = starts_with nat_eq text (codes "\\") && not (starts_with nat_eq text (codes "\\\n"))

-- `* \<joe`: `* ()\<joe`
abbrev pub backslash_edits : ℕ → List ℕ → List Edit
backslash_edits first text = if is_escape (after_front text) then edit_at first text (after_front text) 0 (codes "()") else []

-- `$` after what takes the rest of a line
abbrev pub is_idle_end : List ℕ → Bool
is_idle_end text = ends_with nat_eq text (codes ".*$") || ends_with nat_eq text (codes ".+$")

-- `\/.*$`: `\/.*`
abbrev pub end_edits : ℕ → List ℕ → List Edit
end_edits first text = if is_idle_end text then edit_at first text (drop (length text - 1) text) 1 [] else []

-- `.*$^Cc:`: `.*$Cc:`
abbrev pub anchor_edits : ℕ → List ℕ → List Edit
anchor_edits first text = edit_at first text (drop 3 (from_part (codes ".*$^") text)) 1 []

-- the blanks with which a second line begins
abbrev pub joined_blanks : List ℕ → List ℕ
joined_blanks text =
    if starts_with nat_eq text (codes "\\\n ") || starts_with nat_eq text (codes "\\\n\t") then drop 2 text else []

-- none
abbrev pub indent_edits : ℕ → List ℕ → List ℕ → List Edit
indent_edits first text rest = edit_at first text rest (length rest - length (after_blanks rest)) []

-- at each place from this rest of the text on
abbrev pub indents_from : ℕ → List ℕ → List ℕ → List Edit
indents_from first text [] = []
indents_from first text (byte ∷ rest) = indent_edits first text (joined_blanks (byte ∷ rest)) ++ indents_from first text rest

-- blanks at the beginning of further lines: none
abbrev pub continued_edits : ℕ → List ℕ → List Edit
continued_edits first text = indents_from first text text
