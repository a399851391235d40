-- Forms of conditions: weights, and what stands before an expression (procmailrc(5), procmailsc(5)).
use Rattle.std.specs.Prelude.{ℕ, Bool, true, false, not, ◌||◌, ◌&&◌, List, [], ◌∷◌, drop, nat_eq, if◌then◌else◌, codes, ℤ, pos, int_le, int_lt}
use Rattle.std.specs.List.{starts_with}
use Rattle.std.specs.Str.{bytes_eq}
use Rattle.pm_bytes.specs.Letter.{is_digit_byte}
use Rattle.pm_recipe.specs.declared.tree.Weight.{Weight}
use Rattle.pm_recipe.specs.declared.tree.Weight.TheVariants as weight
use Rattle.pm_recipe.specs.Weights.{condition_of}
use Rattle.check_moving.specs.Leads.{Front, begins_name_at}
use Rattle.check_moving.specs.Text.{after_blanks, behind_name, has_part}
use Rattle.check_moving.specs.declared.form.Form.{Form}
use Rattle.check_moving.specs.declared.form.Form.TheVariants.{Condition}
use Rattle.check_moving.specs.declared.form.ConditionForm.TheVariants as form

-- there is a weight, maybe one that can't be read
abbrev pub is_weight : Weight → Bool
is_weight weight.None = false
is_weight _ = true

-- the greatest weight
abbrev pub is_greatest : Weight → Bool
is_greatest (weight.Some w x) = int_le (pos 2147483647) w
is_greatest _ = false

-- an exponent above this one
abbrev pub is_above : ℤ → Weight → Bool
is_above power (weight.Some w x) = int_lt power x
is_above power _ = false

-- a weight after `$` or `??`
abbrev pub is_late : Front → Bool
is_late front = (front.expands || front.named) && is_weight (condition_of front.text).weight

-- a digit, a dot, a sign or a variable
abbrev pub begins_number : List ℕ → Bool
begins_number [] = false
begins_number (byte ∷ rest) = is_digit_byte byte || nat_eq byte 46 || nat_eq byte 43 || nat_eq byte 45 || nat_eq byte 36

-- without a sign at the front
abbrev pub after_sign : List ℕ → List ℕ
after_sign text = if starts_with nat_eq text (codes "-") || starts_with nat_eq text (codes "+") then drop 1 text else text

-- after the name of a variable, with braces around it or without; `=` is one, too
abbrev pub after_variable : List ℕ → List ℕ
after_variable text =
    if starts_with nat_eq text (codes "{") then drop 1 (behind_name (drop 1 text))
    else if starts_with nat_eq text (codes "=") then drop 1 text
    else behind_name text

-- a caret and a number
abbrev pub is_power : List ℕ → Bool
is_power text = starts_with nat_eq text (codes "^") && begins_number (after_blanks (drop 1 text))

-- the value of a variable is a weight
abbrev pub gives_weight : List ℕ → Bool
gives_weight text = starts_with nat_eq text (codes "$") && is_power (after_blanks (after_variable (drop 1 text)))

-- in a text that is expanded
abbrev pub is_variable_weight : Front → Bool
is_variable_weight front = front.expands && gives_weight (after_sign front.text)

-- a name, or a brace before one
abbrev pub begins_variable : List ℕ → Bool
begins_variable text = begins_name_at text || starts_with nat_eq text (codes "{")

-- a variable, and nothing else
abbrev pub is_variable : List ℕ → Bool
is_variable text =
    starts_with nat_eq text (codes "$") && begins_variable (drop 1 text) && bytes_eq (after_variable (drop 1 text)) (codes "")

-- in a text that is expanded
abbrev pub is_variable_condition : Front → Bool
is_variable_condition front = front.expands && not front.named && is_variable front.text

-- a condition that has no weight, after one with the greatest
abbrev pub is_after : Bool → Weight → Bool
is_after greatest worth = greatest && not (is_weight worth)

-- a size
abbrev pub is_size : List ℕ → Bool
is_size text = starts_with nat_eq text (codes "<") || starts_with nat_eq text (codes ">")

-- a size with an exponent above 3
abbrev pub is_size_weight : Weight → List ℕ → Bool
is_size_weight worth text = is_above (pos 3) worth && is_size text

-- a second line that begins with a blank
abbrev pub is_joined : List ℕ → Bool
is_joined text = has_part (codes "\\\n ") text || has_part (codes "\\\n\t") text

-- in a text that is expanded
abbrev pub is_continued : Front → List ℕ → Bool
is_continued front text = front.expands && is_joined text

-- a digit comes first
abbrev pub begins_digit : List ℕ → Bool
begins_digit [] = false
begins_digit (byte ∷ rest) = is_digit_byte byte

-- a code below 0
abbrev pub is_below_zero : List ℕ → Bool
is_below_zero text =
    (starts_with nat_eq text (codes "-") && begins_digit (drop 1 text))
    || (starts_with nat_eq text (codes "^^-") && begins_digit (drop 3 text))

-- looked for in a variable, and not a weight before an expression
abbrev pub is_signal_code : Front → Bool
is_signal_code front = front.named && is_below_zero front.text && not (has_part (codes " ") front.text)

-- the forms of a condition with this text, weight and front, after a condition with the greatest weight or without
abbrev pub conditioned : Bool → List ℕ → Weight → Front → List (Bool × Form)
conditioned greatest text worth front =
    (is_late front, Condition form.LateWeight)
    ∷ (is_variable_weight front, Condition form.VariableWeight)
    ∷ (is_variable_condition front, Condition form.VariableCondition)
    ∷ (is_after greatest worth, Condition form.AfterGreatest)
    ∷ (is_size_weight worth front.text, Condition form.SizeWeight)
    ∷ (is_continued front text, Condition form.Continued)
    ∷ (is_signal_code front, Condition form.SignalCode)
    ∷ []
