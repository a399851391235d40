use Rattle.std.proofs.Common.{map, ◌∙◌}
use Rattle.pm_recipe.specs.Builder.{level_of}
use Rattle.pm_recipe.proofs.Joined.{joined-close}
use Rattle.pm_recipe.proofs.building.Builder.close_level.Goals as goal

pub returns : goal.returns
returns c = record {
  levels = c.in_ok-put_recipe.ensures.levels;
  begun = c.in_ok-put_recipe.ensures.begun;
  joins = λ lists. c.in_ok-put_recipe.ensures.joins lists
      ∙ rw (c.replace-block.ensures.after, c.replace-block.ensures.value)
      (joined-close (map level_of c.args.self.now.levels.items) (level_of c.args.level) c.args.self.now.done lists);
}
