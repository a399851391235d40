-- The line of a condition in the words of the language: its weight (procmailsc(5)), and what it is matched with.
use Rattle.std.specs.Prelude.{ℕ, ◌≤◌, List, [], ◌∷◌, ◌++◌, ◌≡◌, if◌then◌else◌, nat_eq, Bool, false, true, ◌&&◌, ◌||◌, pos, neg_ℤ}
use Rattle.std.specs.List.{list_any}
use Rattle.pm_bytes.specs.Letter.{is_blank_byte, is_digit_byte, is_name_byte, is_name_start}
use Rattle.pm_bytes.specs.Alphabet.{BANG, DOLLAR, QUESTION, DOT, PLUS, MINUS, CARET}
use Rattle.pm_recipe.specs.Joins.{unjoined, unindented, before_blanks}
use Rattle.pm_recipe.specs.Words.{AreBlanks}
use Rattle.pm_recipe.specs.Weights.{digits_value, has_digit, ends_word}
use Rattle.pm_recipe.specs.declared.tree.Weight.{Weight}
use Rattle.pm_recipe.specs.declared.tree.Weight.TheVariants as weight
use Rattle.pm_recipe.specs.declared.tree.Condition.{Condition}

-- a plus, a minus or nothing
pub data IsSign (sign : List ℕ) (minus : Bool) : Type 0 where
  Absent : sign ≡ [] → minus ≡ false → IsSign sign minus
  Plus : sign ≡ PLUS ∷ [] → minus ≡ false → IsSign sign minus
  Minus : sign ≡ MINUS ∷ [] → minus ≡ true → IsSign sign minus

-- digits and dots alone
abbrev pub are_digits : List ℕ → Bool
are_digits [] = true
are_digits (byte ∷ bytes) = (is_digit_byte byte || nat_eq byte DOT) && are_digits bytes

-- a sign, and digits and dots with a digit among them
pub record IsNumeral (text : List ℕ) (minus : Bool) (digits : List ℕ) : Type 0 where
  pub sign : List ℕ
  pub text_is : text ≡ sign ++ digits
  pub signed : IsSign sign minus
  pub are : are_digits digits ≡ true
  pub some : has_digit digits ≡ true

-- two numerals with a caret between them, and a blank or the end after
pub record IsWeight (text : List ℕ) (minus : Bool) (digits : List ℕ) (less : Bool) (power : List ℕ) (rest : List ℕ) : Type 0 where
  pub w : List ℕ
  pub x : List ℕ
  pub text_is : text ≡ w ++ (CARET ∷ (x ++ rest))
  pub w_is : IsNumeral w minus digits
  pub x_is : IsNumeral x less power
  pub ends : ends_word rest ≡ true

-- digits without a dot write a number that is at most this one
pub record IsNumber (digits : List ℕ) (most : ℕ) (number : ℕ) : Type 0 where
  pub whole : list_any (λ byte. nat_eq DOT byte) digits ≡ false
  pub number_is : number ≡ digits_value 0 digits
  pub within : number ≤ most

-- an exponent is at most this; with a minus it is zero
abbrev pub most_power : Bool → ℕ
most_power less = if less then 0 else 2147483647

-- what a weight is worth: it is bad where a number is out of its range
pub data IsWorth (minus : Bool) (digits : List ℕ) (less : Bool) (power : List ℕ) (worth : Weight) : Type 0 where
  Adds : (n m : ℕ) → minus ≡ false → IsNumber digits 2147483647 n → IsNumber power (most_power less) m → worth ≡ weight.Some (pos n) (pos m)
      → IsWorth minus digits less power worth
  Takes : (n m : ℕ) → minus ≡ true → IsNumber digits 2147483647 n → IsNumber power (most_power less) m → worth ≡ weight.Some (neg_ℤ (pos n)) (pos m)
      → IsWorth minus digits less power worth
  Bad : ((n m : ℕ) → IsNumber digits 2147483647 n → IsNumber power (most_power less) m → ⊥) → worth ≡ weight.Bad → IsWorth minus digits less power worth

-- a line, the weight at its front, if there is one, and what follows it and its blanks
pub data IsWeighed (line : List ℕ) (worth : Weight) (rest : List ℕ) : Type 0 where
  Bare : ((minus less : Bool) (digits power last : List ℕ) → IsWeight line minus digits less power last → ⊥) → worth ≡ weight.None → rest ≡ line
      → IsWeighed line worth rest
  Weighted : (minus less : Bool) (digits power last blanks : List ℕ) → IsWeight line minus digits less power last → IsWorth minus digits less power worth
      → last ≡ blanks ++ rest → AreBlanks 0 blanks rest → IsWeighed line worth rest

-- bytes of a name alone
abbrev pub are_name : List ℕ → Bool
are_name [] = true
are_name (byte ∷ bytes) = is_name_byte byte && are_name bytes

-- blanks alone
abbrev pub are_blank : List ℕ → Bool
are_blank [] = true
are_blank (byte ∷ bytes) = is_blank_byte byte && are_blank bytes

-- what can stand before an expression: blanks, `!`, and names with `??` after them
pub data IsLead : List ℕ → Type 0 where
  None : IsLead []
  Blank : (byte : ℕ) (lead : List ℕ) → is_blank_byte byte ≡ true → IsLead lead → IsLead (byte ∷ lead)
  Bang : (lead : List ℕ) → IsLead lead → IsLead (BANG ∷ lead)
  Area : (first : ℕ) (others blanks lead : List ℕ) → is_name_start first ≡ true → are_name others ≡ true → are_blank blanks ≡ true → IsLead lead
      → IsLead (first ∷ (others ++ (blanks ++ (QUESTION ∷ (QUESTION ∷ lead)))))

-- a `$` stands before the expression: the line is expanded before it is matched
pub record IsExpanded (text : List ℕ) : Type 0 where
  pub lead : List ℕ
  pub rest : List ℕ
  pub text_is : text ≡ lead ++ (DOLLAR ∷ rest)
  pub leads : IsLead lead

-- without the blanks at both ends
pub record IsTrimmed (text : List ℕ) (line : List ℕ) : Type 0 where
  pub blanks : List ℕ
  pub rest : List ℕ
  pub text_is : text ≡ blanks ++ rest
  pub apart : AreBlanks 0 blanks rest
  pub line_is : line ≡ before_blanks rest

-- a `$` or the end
abbrev pub ends_plain : List ℕ → Bool
ends_plain [] = true
ends_plain (byte ∷ bytes) = nat_eq byte DOLLAR

-- after the first `$` the blanks after a join stay
pub record IsDollarLine (text : List ℕ) (line : List ℕ) : Type 0 where
  pub front : List ℕ
  pub last : List ℕ
  pub text_is : text ≡ front ++ last
  pub plain : list_any (λ byte. nat_eq byte DOLLAR) front ≡ false
  pub ends : ends_plain last ≡ true
  pub line_is : line ≡ unindented front ++ unjoined last

-- the line of a condition, of what follows its star
pub data IsConditionLine (text : List ℕ) (line : List ℕ) : Type 0 where
  Plain : (worth : Weight) (rest : List ℕ) → IsTrimmed (unindented text) line → IsWeighed line worth rest → (IsExpanded rest → ⊥) → IsConditionLine text line
  Dollar : (worth : Weight) (whole rest dollar : List ℕ) → IsTrimmed (unindented text) whole → IsWeighed whole worth rest → IsExpanded rest
      → IsDollarLine text dollar → IsTrimmed dollar line → IsConditionLine text line

-- a condition, of what follows its star
pub record IsCondition (text : List ℕ) (condition : Condition) : Type 0 where
  pub line : List ℕ
  pub joined : IsConditionLine text line
  pub weighed : IsWeighed line condition.weight condition.text
