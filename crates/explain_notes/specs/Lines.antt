-- The line of a recipe, and that of a condition.
use Rattle.std.specs.Prelude.{ℕ, ℤ, ◌-◌, Bool, true, false, cond, List, [], ◌++◌, take, length, Option, Some, None, codes, decimal}
use Rattle.pm_journal.specs.LogText.{quoted}
use Rattle.pm_meaning.specs.declared.question.Outcome.{Outcome}
use Rattle.pm_recipe.specs.Colon.{flags_of, flags_part}
use Rattle.pm_recipe.specs.declared.tree.Flags.{Flags}
use Rattle.explain_notes.specs.declared.recipe.Line.{Line}
use Rattle.explain_notes.specs.Came.{came}
use Rattle.explain_notes.specs.declared.told.Told.{Told}
use Rattle.explain_notes.specs.declared.told.What.{What}
use Rattle.explain_notes.specs.declared.told.What.TheVariants.{Recipe, Condition}

-- so many blanks, forty at most
unfoldable pub blanks : ℕ → List ℕ
blanks count = take count (codes "                                        ")

-- a text at the left of so many columns
abbrev pub in_columns : ℕ → List ℕ → List ℕ
in_columns columns text = text ++ blanks (columns - length text)

-- the number of a line
abbrev pub number_told : Option Line → List ℕ
number_told None = []
number_told (Some line) = codes ":" ++ decimal line.number

-- the rcfile and the number of the line
abbrev pub place_told : Told → List ℕ
place_told told = quoted told.rcfile ++ in_columns 4 (number_told told.line) ++ codes " "

-- the colon line, or the place of the recipe's step
abbrev pub recipe_text : Option Line → ℕ → List ℕ
recipe_text None place = codes "recipe at place " ++ decimal place
recipe_text (Some line) place = quoted line.text

-- the line of a condition
abbrev pub condition_text : Option Line → List ℕ
condition_text None = codes "condition"
condition_text (Some line) = quoted line.text

-- why the flags A, a, E and e kept a recipe from being tried, where one of them alone can
abbrev pub why : Bool → Bool → Bool → Bool → List ℕ
why true false false false = codes ": the last recipe without A or a didn't match"
why and_chain true false false = codes ": the last recipe without A or a didn't match, or the one before didn't succeed"
why false false true false = codes ": a recipe before it was executed"
why false false false true = codes ": the recipe before it didn't fail"
why and_chain and_ok or_else on_error = []

-- the same by all flags
abbrev pub why_flags : Flags → List ℕ
why_flags flags = why flags.and_chain flags.and_ok flags.or_else flags.on_error

-- the same by the colon line
unfoldable pub why_line : Option Line → List ℕ
why_line None = []
why_line (Some line) = why_flags (flags_of (flags_part line.text))

-- the text of a recipe that wasn't tried, with what is told of that
abbrev pub untried : Option Line → List ℕ → List ℕ
untried line text = in_columns 36 text ++ codes "  not tried" ++ why_line line

-- the same, unless it was tried
abbrev pub recipe_told : Option Line → List ℕ → Bool → List ℕ
recipe_told line text tried = cond tried text (untried line text)

-- the line of a recipe
abbrev pub recipe_line : Told → ℕ → Bool → List ℕ
recipe_line told place tried = place_told told ++ recipe_told told.line (recipe_text told.line place) tried

-- the line of a condition, and what came of it
abbrev pub condition_line : Told → Outcome → ℤ → List ℕ
condition_line told outcome score = codes "  " ++ place_told told ++ in_columns 34 (condition_text told.line) ++ codes "  " ++ came outcome score

-- either
abbrev pub line_by : Told → What → List ℕ
line_by told (Recipe place tried) = recipe_line told place tried
line_by told (Condition outcome score) = condition_line told outcome score

-- the line, with its end
abbrev pub told_line : Told → List ℕ
told_line told = line_by told told.what ++ codes "\n"
