-- What the code reads out of a span.
use Rattle.std.specs.Prelude.{ℕ, List, [], ◌∷◌}
use Rattle.pm_recipe.specs.declared.fronts.Kind.{Kind}
use Rattle.pm_recipe.specs.declared.fronts.Kind.TheVariants.{Gap, Colon, Condition, Mailbox, Pipe, WriteOut, Capture, Forward, Open, TooDeep, Close, Assign, Unset, Skipped}
use Rattle.pm_recipe.specs.declared.building.Head.{Head}
use Rattle.pm_recipe.specs.Places.{text_after}
use Rattle.pm_recipe.specs.declared.runs.Run.TheVariants as Run
use Rattle.pm_recipe.specs.Runs.{run_places}
use Rattle.pm_recipe.specs.Joins.{unjoined}
use Rattle.pm_recipe.specs.Weights.{condition_of}
use Rattle.pm_recipe.specs.Colon.{flags_part, flags_of, lock_of, has_junk}
use Rattle.pm_recipe.specs.Tree as tree
use Rattle.pm_recipe.specs.Item.{Item}
use Rattle.pm_recipe.specs.Item.Item.{Nothing, Begins, Judges, Does, Opens, Fails, Closes, States}
use Rattle.pm_recipe.specs.Spans.{Span}

-- the colon line on this line
abbrev pub head_of : ℕ → List ℕ → Head
head_of line text = record { line = line; text = text; flags = flags_of (flags_part text); lock = lock_of text }

-- a program's line
abbrev pub program_line : List ℕ → List ℕ
program_line text = text_after run_places Run.Blanks (unjoined text)

-- what a span says
abbrev pub item_of : Span → Kind → Item
item_of span Gap = Nothing
item_of span Condition = Judges (condition_of span.text)
item_of span Mailbox = Does (tree.Mailbox (unjoined span.text))
item_of span Pipe = Does (tree.Pipe (program_line span.text))
item_of span Forward = Does (tree.Forward (unjoined span.text))
item_of span Capture = Does (tree.Capture (unjoined span.name) (program_line span.text))
item_of span WriteOut = Does tree.WriteOut
item_of span Open = Opens
item_of span TooDeep = Fails span.line span.text
item_of span Colon = Begins (head_of span.line span.text) (has_junk span.text)
item_of span Close = Closes
item_of span Assign = States (tree.Assign (unjoined span.name) span.text)
item_of span Unset = States (tree.Unset (unjoined span.name))
item_of span Skipped = States (tree.Defect span.line span.text)

-- what spans say
abbrev pub items_of : List Span → List Item
items_of [] = []
items_of (span ∷ spans) = item_of span span.kind ∷ items_of spans
