use Rattle.std.proofs.Common.{ap, sym, ◌∙◌, rules}
use Rattle.std.specs.Option.{option_copied}
use Rattle.pm_vars.specs.Held.{live}
use Rattle.pm_vars.proofs.Entries.{seen-removed}
use Rattle.pm_vars.proofs.values.clear_place.Goals as goal

pub returns-then-is_none-clause-same : goal.returns-then-is_none-clause-same
returns-then-is_none-clause-same c =
    ap live c.shift_remove.ensures.entries
    ∙ seen-removed (λ k. k.items) (λ held. held.value) c.args.name.now c.in-Some.found.now c.args.held.now.entries
    (sym c.get.ensures.value ∙ ap option_copied c.in-Some.is) (search rules)
