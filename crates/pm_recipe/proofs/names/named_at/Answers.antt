use Rattle.std.proofs.Common.{ap, sym, ◌∙◌, subst, drop}
use Rattle.pm_recipe.specs.Places.{text_after}
use Rattle.pm_recipe.specs.declared.runs.Run.TheVariants as Run
use Rattle.pm_recipe.specs.Runs.{run_places}
use Rattle.pm_recipe.specs.Opens.{Knows}
use Rattle.pm_recipe.proofs.OpenWords.{knows-value}
use Rattle.pm_recipe.proofs.names.named_at.Goals as goal

pub assignment_at-requires : goal.assignment_at-requires
assignment_at-requires c = record {
  knows = subst (λ xs. Knows c.args.known.now xs)
      (sym (c.past.ensures.text ∙ ap (text_after run_places Run.Blanks) (c.past_first.ensures.text
      ∙ ap (drop 1) (c.past-rest.ensures.text ∙ ap (text_after run_places Run.Blanks) c.split.ensures.behind))))
      (knows-value c.args.known.now c.args.text.now c.requires.knows);
}
