use Rattle.std.proofs.Common.{rules, sym, ◌∙◌}
use Rattle.pm_vars.proofs.Entries.{value_of-absent, value_of-found}
use Rattle.pm_vars.proofs.values.find.Goals as goal

pub returns-in_err-index : goal.returns-in_err-index
returns-in_err-index c =
    (search rules) ∙ sym (value_of-absent (λ k. k.items) (λ held. held.value) c.args.name.now c.args.held.now.entries (search rules))

pub returns : goal.returns
returns c =
    c.as_ref.ensures.value ∙ sym (value_of-found (λ k. k.items) (λ held. held.value) c.args.name.now c.index.result.now c.args.held.now.entries c.get_index_of.ensures.unique (search rules))
