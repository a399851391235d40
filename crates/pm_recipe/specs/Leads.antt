-- The readers of a condition's line: of a numeral, and of what stands before the expression.
use Rattle.std.specs.Prelude.{ℕ, if◌then◌else◌, nat_eq, Bool, false, not, ◌||◌}
use Rattle.pm_bytes.specs.Letter.{is_blank_byte, is_digit_byte, is_name_byte, is_name_start}
use Rattle.pm_bytes.specs.Alphabet.{BANG, QUESTION, DOT, PLUS, MINUS}
use Rattle.pm_recipe.specs.Places.{Places}
use Rattle.pm_recipe.specs.declared.leads.InNumeral.{InNumeral}
use Rattle.pm_recipe.specs.declared.leads.InNumeral.TheVariants.{Sign, Digits}
use Rattle.pm_recipe.specs.declared.leads.InLead.{InLead}
use Rattle.pm_recipe.specs.declared.leads.InLead.TheVariants.{Before, Name, Blanks, Mark}

-- a sign stands before all digits and dots
abbrev pub numeral_ends : InNumeral → ℕ → Bool
numeral_ends Sign byte = not (is_digit_byte byte || nat_eq byte DOT || nat_eq byte PLUS || nat_eq byte MINUS)
numeral_ends Digits byte = not (is_digit_byte byte || nat_eq byte DOT)

-- in a numeral
abbrev pub numeral_places : Places InNumeral
numeral_places = record { joins = λ place. false; ends = numeral_ends; after = λ place byte. Digits }

-- the bytes that belong to no blank, no `!` and no name with `??` after it
abbrev pub lead_ends : InLead → ℕ → Bool
lead_ends Before byte = not (is_blank_byte byte || nat_eq byte BANG || is_name_start byte)
lead_ends Name byte = not (is_blank_byte byte || nat_eq byte QUESTION || is_name_byte byte)
lead_ends Blanks byte = not (is_blank_byte byte || nat_eq byte QUESTION)
lead_ends Mark byte = not (nat_eq byte QUESTION)

-- a name, the blanks after it, and its two question marks
abbrev pub lead_after : InLead → ℕ → InLead
lead_after Before byte = if is_name_start byte then Name else Before
lead_after Name byte = if nat_eq byte QUESTION then Mark else if is_blank_byte byte then Blanks else Name
lead_after Blanks byte = if nat_eq byte QUESTION then Mark else Blanks
lead_after Mark byte = Before

-- before an expression
abbrev pub lead_places : Places InLead
lead_places = record { joins = λ place. false; ends = lead_ends; after = lead_after }
