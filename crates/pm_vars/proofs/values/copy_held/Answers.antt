use Rattle.pm_vars.proofs.Entries.{entries-clone, bytes-clone}
use Rattle.pm_vars.proofs.values.copy_held.Goals as goal

pub returns : goal.returns
returns c =
    entries-clone (λ k. k.items) (λ held. held.value) _ (λ x y h. bytes-clone x.items y.items h.0) c.args.held.now.entries c.in_ok-copy.copy.entries c.in_ok-copy.ensures.cases
