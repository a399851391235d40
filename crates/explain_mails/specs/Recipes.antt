-- The recipes that a run came to, as an array of objects.
use Rattle.std.specs.Prelude.{ℕ, ℤ, ◌+◌, Bool, true, false, List, [], ◌∷◌, ◌++◌, Option, Some, None, codes, if◌then◌else◌}
use Rattle.json.specs.Token.{Token, begin_object, end_object, begin_array, end_array, key}
use Rattle.pm_conds.specs.declared.observer.Note.{Note}
use Rattle.pm_journal.specs.declared.acts.Entry.{Entry}
use Rattle.pm_meaning.specs.declared.question.Outcome.{Outcome}
use Rattle.pm_meaning.specs.declared.question.Outcome.TheVariants.{Holds, Matched, Fails, Counted, Compared, Exited, Defective, TooLong}
use Rattle.explain_notes.specs.declared.recipe.Line.{Line}
use Rattle.explain_notes.specs.Shown.{shown_of}
use Rattle.explain_notes.specs.declared.shown.Shown.{Shown}
use Rattle.explain_notes.specs.declared.shown.Shown.TheVariants as shown
use Rattle.explain_notes.specs.declared.told.Told.{Told}
use Rattle.explain_notes.specs.declared.told.What.{What}
use Rattle.explain_notes.specs.declared.told.What.TheVariants.{Recipe, Condition}
use Rattle.explain_mails.specs.Members.{text_member, maybe_member, number_member, maybe_number_member, signed_member, truth_member}

-- the number and the text of a line that may not be known
abbrev pub line_members : Option Line → List Token
line_members None = maybe_number_member (codes "line") None ++ maybe_member (codes "text") None
line_members (Some line) = maybe_number_member (codes "line") (Some line.number) ++ maybe_member (codes "text") (Some line.text)

-- what MATCH is set to
unfoldable pub matched_member : List ℕ → List Token
matched_member bytes = text_member (codes "match") bytes

-- it, where it is set
abbrev pub match_member : Option (List ℕ) → List Token
match_member None = []
match_member (Some bytes) = matched_member bytes

-- why a condition isn't judged
unfoldable pub error_member : List ℕ → List Token
error_member words = text_member (codes "error") words

-- so many matches were counted
abbrev pub counted_members : ℕ → Option (List ℕ) → ℤ → List Token
counted_members matches bytes score = number_member (codes "matches") matches ++ signed_member (codes "score") score ++ match_member bytes

-- a length, and the number that it is compared with
unfoldable pub sizes_members : ℕ → ℕ → List Token
sizes_members length number = number_member (codes "length") length ++ number_member (codes "limit") number

-- a length was compared with a number
abbrev pub compared_members : ℕ → ℕ → ℤ → List Token
compared_members length number score = sizes_members length number ++ signed_member (codes "score") score

-- a program ended so
abbrev pub exited_members : ℕ → ℤ → List Token
exited_members code score = number_member (codes "code") code ++ signed_member (codes "score") score

-- a value is too long
abbrev pub long_members : ℕ → List Token
long_members length = error_member (codes "value too long") ++ number_member (codes "length") length

-- what came of a condition, and the score after it where it has a weight
abbrev pub came_members : Outcome → ℤ → List Token
came_members Holds score = truth_member (codes "holds") true
came_members (Matched bytes) score = truth_member (codes "holds") true ++ matched_member bytes
came_members Fails score = truth_member (codes "holds") false
came_members (Counted weight matches bytes) score = counted_members matches bytes score
came_members (Compared weight above length number) score = compared_members length number score
came_members (Exited weight inverted code) score = exited_members code score
came_members Defective score = error_member (codes "not a condition")
came_members (TooLong length) score = long_members length

-- a condition
abbrev pub condition_tokens : Told → Outcome → ℤ → List Token
condition_tokens told outcome score = begin_object ∷ (line_members told.line ++ came_members outcome score ++ end_object ∷ [])

-- a recipe before which so many steps were done, up to its first condition
abbrev pub recipe_begun : Told → Bool → ℕ → List Token
recipe_begun told tried steps =
    begin_object
    ∷ (text_member (codes "rcfile") told.rcfile ++ line_members told.line ++ truth_member (codes "tried") tried ++ number_member (codes "steps") steps
    ++ key (codes "conditions") ∷ begin_array ∷ [])

-- the end of the recipe's object, where one is open
abbrev pub closed : Bool → List Token
closed is_open = if is_open then end_array ∷ end_object ∷ [] else []

-- a recipe ends the one before it; a condition is one of the recipe that is open
abbrev pub told_tokens : Told → What → Bool → ℕ → List Token
told_tokens told (Recipe place tried) is_open steps = closed is_open ++ recipe_begun told tried steps
told_tokens told (Condition outcome score) is_open steps = if is_open then condition_tokens told outcome score else []

-- steps have an array of their own
abbrev pub shown_tokens : Shown → Bool → ℕ → List Token
shown_tokens (shown.Step step) is_open steps = []
shown_tokens (shown.Told told) is_open steps = told_tokens told told.what is_open steps

-- whether a recipe's object is open after that
abbrev pub opens : What → Bool → Bool
opens (Recipe place tried) is_open = true
opens (Condition outcome score) is_open = is_open

abbrev pub is_open_after : Shown → Bool → Bool
is_open_after (shown.Step step) is_open = is_open
is_open_after (shown.Told told) is_open = opens told.what is_open

-- how many steps were done after that
abbrev pub steps_after : Shown → ℕ → ℕ
steps_after (shown.Step step) steps = steps + 1
steps_after (shown.Told told) steps = steps

-- the objects of the recipes from here on
abbrev pub recipes_from : Bool → ℕ → List Shown → List Token
recipes_from is_open steps [] = closed is_open
recipes_from is_open steps (one ∷ others) = shown_tokens one is_open steps ++ recipes_from (is_open_after one is_open) (steps_after one steps) others

-- the recipes of a run, unless the result alone is wanted
abbrev pub recipes_member : Bool → List Entry → List Note → List Token
recipes_member quiet entries notes =
    if quiet then [] else key (codes "recipes") ∷ begin_array ∷ (recipes_from false 0 (shown_of entries notes) ++ end_array ∷ [])
