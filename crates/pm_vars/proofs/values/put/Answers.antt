use Rattle.std.proofs.Common.{refl}
use Rattle.pm_vars.proofs.Entries.{with_value-entries}
use Rattle.pm_vars.proofs.values.put.Goals as goal

pub returns-clause-ok : goal.returns-clause-ok
returns-clause-ok c =
    rw (c.in_ok-insert.ensures.entries, ← c.clear_place.ensures.same, ← c.in_ok-owned.ensures)
    (with_value-entries (λ k. k.items) (λ held. held.value) c.in_ok-owned.owned _ c.args.value c.clear_place.new.held.entries refl (rw c.in_ok-owned.ensures c.clear_place.ensures.clear))
