-- What comes of an expression.
use Rattle.std.specs.Prelude.{◌≡◌, ℕ, ◌-◌, ◌≤◌, IfSome, Bool, true, false, not, List, [], take, drop, length, codes, nat_eq, if◌then◌else◌, Option, Some, None}
use Rattle.std.specs.List.{starts_with, ends_with}
use Rattle.std.proofs.Common.{◌⊎◌, inl, inr, refl}
use Rattle.pm_message.specs.Area.{area_of}
use Rattle.pm_message.specs.Split.{whole_of}
use Rattle.pm_message.specs.declared.head.Message.{Message}
use Rattle.pm_message.specs.declared.areas.Place.{Place}
use Rattle.pm_message.specs.declared.areas.Place.TheVariants as place
use Rattle.pm_regex.specs.Re.{Whole}
use Rattle.pm_regex.specs.Reading.{Reads, HasNoReading}
use Rattle.pm_regex.proofs.ReadOrNot.{read_or_not}
use Rattle.pm_regex.specs.declared.found.Found.{Found}
use Rattle.pm_regex.proofs.FoundOrNot.{found_of}
use Rattle.pm_recipe.specs.declared.tree.Flags.{Flags}
use Rattle.pm_vars.specs.Table.{Table}
use Rattle.pm_vars.specs.Variables.{value_of}
use Rattle.pm_meaning.specs.declared.question.Scope.{Scope}
use Rattle.pm_meaning.specs.declared.question.Scope.TheVariants as scope
use Rattle.pm_meaning.specs.declared.question.Outcome.{Outcome}
use Rattle.pm_meaning.specs.declared.question.Outcome.TheVariants.{Holds, Matched, Fails, Defective}

-- the mail, the variables and the flags that a condition sees
pub record Sight : Type 0 where
  pub flags : Flags
  pub message : Message
  pub vars : Table

-- a sight with these parts
abbrev pub sight_of : Flags → Message → Table → Sight
sight_of flags message vars = record { flags = flags; message = message; vars = vars }

-- the flags H and B: the head where neither is given
abbrev pub part_of : Flags → Place
part_of flags = if flags.search_body then (if flags.search_head then place.Hb else place.B) else place.H

-- the value of a variable, empty where it isn't set
abbrev pub value_or_empty : Option (List ℕ) → List ℕ
value_or_empty None = []
value_or_empty (Some value) = value

-- the bytes that a condition searches
abbrev pub area_in : Scope → Sight → List ℕ
area_in scope.Flags sight = area_of sight.message (part_of sight.flags)
area_in (scope.Mail place) sight = area_of sight.message place
area_in (scope.Variable name) sight = value_or_empty (value_of name sight.vars.variables)

-- the bytes of a part of the mail as they stand
abbrev pub bytes_in : Message → Place → List ℕ
bytes_in message place.H = message.head
bytes_in message place.B = message.body
bytes_in message place.Hb = whole_of message

-- the bytes that a condition's program gets
abbrev pub input_in : Scope → Sight → List ℕ
input_in scope.Flags sight = bytes_in sight.message (part_of sight.flags)
input_in (scope.Mail place) sight = bytes_in sight.message place
input_in (scope.Variable name) sight = value_or_empty (value_of name sight.vars.variables)

-- the expression of a reading, where the text has one
abbrev pub expression_from : {text : List ℕ} → ((e : Whole) × Reads text e) ⊎ HasNoReading text → Option Whole
expression_from (inl reading) = Some reading.0
expression_from (inr lacks) = None

-- the expression that the text is read as, where there is one
abbrev pub expression_of : List ℕ → Option Whole
expression_of text = expression_from (read_or_not text)

-- what is found of the expression in the area; the flag D tells capitals from small letters
abbrev pub match_in : Bool → Whole → List ℕ → Option Found
match_in distinguish e area = (found_of (not distinguish) e area).0

-- without a newline at the front
abbrev pub after_newline : List ℕ → List ℕ
after_newline text = if starts_with nat_eq text (codes "\n") then drop 1 text else text

-- without a newline at the end
abbrev pub before_newline : List ℕ → List ℕ
before_newline text = if ends_with nat_eq text (codes "\n") then take (length text - 1) text else text

-- what stands between these places, without one newline at its front and one at its end
abbrev pub match_text : List ℕ → ℕ → ℕ → List ℕ
match_text area start end = before_newline (after_newline (take (end - start) (drop start area)))

-- a condition that holds, or doesn't
abbrev pub holds_if : Bool → Outcome
holds_if true = Holds
holds_if false = Fails

-- after a `\/` MATCH gets the bytes
abbrev pub match_outcome : List ℕ → Option ℕ → ℕ → Outcome
match_outcome area None end = Holds
match_outcome area (Some cut) end = Matched (match_text area cut end)

-- an inverted condition holds where nothing is found, and sets nothing
abbrev pub found_outcome : Bool → List ℕ → Option Found → Outcome
found_outcome inverted area None = holds_if inverted
found_outcome true area (Some found) = Fails
found_outcome false area (Some found) = match_outcome area found.cut found.end

-- what comes of an expression, if the text is one
abbrev pub search_outcome : Bool → Bool → List ℕ → Option Whole → Outcome
search_outcome inverted distinguish area None = Defective
search_outcome inverted distinguish area (Some e) = found_outcome inverted area (match_in distinguish e area)

-- a match doesn't end before its cut, nor after the area
abbrev pub IsWithin : List ℕ → Found → Type 0
IsWithin area found = IfSome found.cut (λ cut. (cut ≤ found.end) × (found.end ≤ length area))

-- newlines at the ends are no part of MATCH
newlines_go : match_text (codes "a: x\n") 2 5 ≡ codes " x"
newlines_go = refl
