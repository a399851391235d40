use Rattle.std.proofs.Common.{◌≡◌, drop, option_copied}
use Rattle.explain_run.specs.Heard.{recipe_from, last_recipe}
use Rattle.explain_run.proofs.heard.last_recipe.Given as goal

abbrev pub invariant-loop-note : goal.invariant-loop-note
invariant-loop-note l = recipe_from (drop l.note-index l.notes) l.index (option_copied l.found) ≡ last_recipe l.notes l.index
