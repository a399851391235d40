use Rattle.pm_vars.specs.Held.{live}
use Rattle.pm_vars.proofs.Last.{last-again}
use Rattle.pm_vars.proofs.values.Values.set_last_folder.Goals as goal

pub returns : goal.returns
returns c = rw (← c.self.view_is) (last-again c.self.inside.last_folder c.args.value (live c.self.inside.held.entries))
