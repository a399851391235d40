use Rattle.std.proofs.Common.{map, refl, arith}
use Rattle.pm_recipe.specs.Builder.{level_of}
use Rattle.pm_recipe.proofs.Joined.{joined-open}
use Rattle.pm_recipe.proofs.building.Builder.open_of.Goals as goal

pub returns : goal.returns
returns c = record {
  levels = rw c.in_ok-push_front.ensures.items (omega arith);
  begun = refl;
  joins = λ lists. rw (c.in_ok-push_front.ensures.items, c.replace-done.ensures.after, c.new.ensures, c.replace-done.ensures.value)
      (joined-open (map level_of c.args.self.now.levels.items) c.args.self.now.done c.args.begun.head c.args.begun.conditions.items lists);
}
