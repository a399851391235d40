-- Variables and arguments, each definition in a few short lists.
use Rattle.std.specs.Prelude.{ℕ, List, [], ◌∷◌, ◌≡◌, Some, None, true, false, codes}
use Rattle.pm_vars.specs.Variables.{Variable, value_of, with_value, without, argument_of, is_exported, variable_of}

-- a variable of this name and value
abbrev pub variable : List ℕ → List ℕ → Variable
variable name value = record { name = name; value = value }

-- two variables, of which the second has an empty value
abbrev pub two : List Variable
two = variable (codes "A") (codes "a") ∷ variable (codes "B") [] ∷ []

-- two arguments
abbrev pub words : List (List ℕ)
words = codes "x" ∷ codes "y" ∷ []

-- what holds of them
pub record Examples : Type 0 where
  -- a value, an empty value, and no value; the whole name counts, and its case
  pub a_value : value_of (codes "A") two ≡ Some (codes "a")
  pub an_empty_value : value_of (codes "B") two ≡ Some []
  pub no_value : value_of (codes "AB") two ≡ None
  pub another_case : value_of (codes "a") two ≡ None
  -- a variable that is set again keeps its place, and a new one is the last
  pub set_again : with_value (codes "A") (codes "c d") two ≡ variable (codes "A") (codes "c d") ∷ variable (codes "B") [] ∷ []
  pub set_new : with_value (codes "C") (codes "c") two
      ≡ variable (codes "A") (codes "a") ∷ variable (codes "B") [] ∷ variable (codes "C") (codes "c") ∷ []
  pub set_empty : with_value (codes "A") [] two ≡ variable (codes "A") [] ∷ variable (codes "B") [] ∷ []
  -- a variable that is unset is gone, and no other
  pub unset_one : without (codes "A") two ≡ variable (codes "B") [] ∷ []
  pub unset_empty : without (codes "B") two ≡ variable (codes "A") (codes "a") ∷ []
  pub unset_none : without (codes "C") two ≡ two
  -- arguments count from 1
  pub argument_0 : argument_of 0 words ≡ None
  pub argument_1 : argument_of 1 words ≡ Some (codes "x")
  pub argument_2 : argument_of 2 words ≡ Some (codes "y")
  pub argument_3 : argument_of 3 words ≡ None
  -- a program gets a variable, also an empty one, but none with a byte 0 or bytes that aren't UTF-8
  pub exported : is_exported (variable (codes "A") (codes "a b")) ≡ true
  pub exported_empty : is_exported (variable (codes "A") []) ≡ true
  pub exported_lines : is_exported (variable (codes "A") (codes "a\nb\n")) ≡ true
  pub byte_0_in_value : is_exported (variable (codes "A") (97 ∷ 0 ∷ [])) ≡ false
  pub byte_0_in_name : is_exported (variable (65 ∷ 0 ∷ []) (codes "a")) ≡ false
  pub no_utf8_in_value : is_exported (variable (codes "A") (255 ∷ [])) ≡ false
  pub no_utf8_in_name : is_exported (variable (255 ∷ []) (codes "a")) ≡ false
  -- a pair of the environment is a variable of that name and value
  pub pair : variable_of (record { name = codes "A"; value = codes "a" }) ≡ variable (codes "A") (codes "a")
