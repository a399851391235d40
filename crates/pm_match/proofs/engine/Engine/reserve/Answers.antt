use Rattle.pm_regex.specs.Re.{nothing}
use Rattle.pm_regex.specs.Found.{without_cut}
use Rattle.pm_match.proofs.engine.Engine.reserve.Goals as goal

pub invariant_of-self : goal.invariant_of-self
invariant_of-self c =
    let e = c.self.inside.expr in record {
      both = c.self.invariant.both;
      one = c.reserve.ensures.kept (without_cut e.left e.right) nothing c.self.inside.fold c.self.invariant.one;
    }
