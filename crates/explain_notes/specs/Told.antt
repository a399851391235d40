-- What is told of notes.
use Rattle.std.specs.Prelude.{ℕ, List, [], ◌∷◌, drop, Option, Some, None}
use Rattle.pm_conds.specs.declared.observer.Note.{Note}
use Rattle.pm_conds.specs.declared.observer.Note.TheVariants.{CameTo, Judged}
use Rattle.explain_notes.specs.RcLines.{Lines}
use Rattle.explain_notes.specs.declared.recipe.Line.{Line}
use Rattle.explain_notes.specs.Reads.{recipe_in}
use Rattle.explain_notes.specs.declared.reads.Read.{Read}
use Rattle.explain_notes.specs.declared.told.Told.{Told}
use Rattle.explain_notes.specs.declared.told.What.TheVariants.{Recipe, Condition}

-- the colon line of a recipe whose lines may not be known
abbrev pub colon_of : Option Lines → Option Line
colon_of None = None
colon_of (Some recipe) = Some recipe.colon

-- the lines of its conditions
abbrev pub conditions_of : Option Lines → List Line
conditions_of None = []
conditions_of (Some recipe) = recipe.conditions

-- the first of these lines, if there is one
abbrev pub first : List Line → Option Line
first [] = None
first (line ∷ lines) = Some line

-- the lines of the recipe that the run came to
abbrev pub recipe_for : List Read → Note → Option Lines
recipe_for reads (CameTo rcfile place admitted entries) = recipe_in reads rcfile entries place
recipe_for reads (Judged outcome score entries) = None

-- what is told of a recipe, with its colon line; and of a condition, which is the first of these lines of this rcfile
abbrev pub told_of : Note → List ℕ → List Line → Option Lines → Told
told_of (CameTo name place admitted entries) rcfile lines recipe =
    record { entries = entries; rcfile = name; line = colon_of recipe; what = Recipe place admitted }
told_of (Judged outcome score entries) rcfile lines recipe =
    record { entries = entries; rcfile = rcfile; line = first lines; what = Condition outcome score }

-- the rcfile of the recipe that was come to last
abbrev pub rcfile_after : Note → List ℕ → List ℕ
rcfile_after (CameTo name place admitted entries) rcfile = name
rcfile_after (Judged outcome score entries) rcfile = rcfile

-- the lines of its conditions that are still to be judged
abbrev pub lines_after : Note → List Line → Option Lines → List Line
lines_after (CameTo name place admitted entries) lines recipe = conditions_of recipe
lines_after (Judged outcome score entries) lines recipe = drop 1 lines

-- what is told of notes, one after the other
abbrev pub all_told : List Read → List ℕ → List Line → List Note → List Told
all_told reads rcfile lines [] = []
all_told reads rcfile lines (note ∷ notes) =
    told_of note rcfile lines (recipe_for reads note)
    ∷ all_told reads (rcfile_after note rcfile) (lines_after note lines (recipe_for reads note)) notes
