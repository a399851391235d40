use Rattle.std.proofs.Common.{[], ap, sym, ◌∙◌, length}
use Rattle.pm_recipe.specs.Builder.{level_of}
use Rattle.pm_recipe.proofs.Joined.{joined-empty}
use Rattle.pm_recipe.proofs.building.Builder.end.Goals as goal

pub returns : goal.returns
returns c = sym (joined-empty level_of c.give_up.new.self.levels.items c.give_up.new.self.done (ap length c.in_ok-give_up.ensures.levels ∙ c.requires))
    ∙ c.in_ok-give_up.ensures.joins []
