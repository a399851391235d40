use Rattle.std.proofs.Common.{refl, ◌∙◌}
use Rattle.pm_memory.proofs.Children.{fills, on_ok_map}
use Rattle.pm_memory.proofs.programs.Programs.feed.Goals as goal

pub returns-clause-ok : goal.returns-clause-ok
returns-clause-ok c = on_ok_map c.push_slice-fed.result c.push_slice-fed.ensures.ok (λ e. record {
  children = refl;
  inputs = c.push_reserved.ensures.items ∙ fills c.args.self.now.inputs.items c.pop.new.self.items c.in-Some.input _ _ c.in-Some.ensures.items e;
  child = refl;
  script = refl;
  left = refl;
})
