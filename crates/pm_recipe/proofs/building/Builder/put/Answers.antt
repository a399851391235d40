use Rattle.std.proofs.Common.{map, refl}
use Rattle.pm_recipe.specs.Builder.{level_of}
use Rattle.pm_recipe.specs.View.{tree_of}
use Rattle.pm_recipe.proofs.Joined.{joined-put}
use Rattle.pm_recipe.proofs.building.Builder.put.Goals as goal

pub returns : goal.returns
returns c = record {
  levels = refl;
  begun = refl;
  joins = λ lists. rw c.in_ok-push.ensures.ok (joined-put (map level_of c.args.self.now.levels.items) c.args.self.now.done (tree_of c.args.statement) lists);
}
