use Rattle.pm_vars.specs.Held.{live}
use Rattle.pm_vars.proofs.values.Values.unset.Goals as goal

pub returns-then-self-len : goal.returns-then-self-len
returns-then-self-len c = rw (← c.self.view_is, c.drop_gone.ensures, c.remove.ensures) (c.forget.ensures (live c.self.inside.held.entries))

pub returns-else-self-len : goal.returns-else-self-len
returns-else-self-len c = rw (← c.self.view_is, c.remove.ensures) (c.forget.ensures (live c.self.inside.held.entries))
