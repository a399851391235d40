use Rattle.std.proofs.Common.{ap, ◌∙◌}
use Rattle.std.specs.Option.{option_map}
use Rattle.log_summary.specs.Tallies.{grown}
use Rattle.log_summary.proofs.Rows.{with_one-entries}
use Rattle.log_summary.proofs.table.Table.add.Goals as goal

pub returns-clause-ok : goal.returns-clause-ok
returns-clause-ok c =
    let there = rw c.as_slice.ensures.value at (c.copied.ensures ∙ c.get.ensures.value) in
    rw (← c.self.view_is, c.in_ok-insert.ensures.entries)
    (with_one-entries (λ k. k.items) (λ t. t.count) (λ t. t.bytes) c.args.name _ c.args.bytes c.self.inside.tallies.entries
    (c.with_one-tally.ensures.count ∙ ap (λ o. grown 1 (option_map (λ t. t.count) o)) there)
    (c.with_one-tally.ensures.bytes ∙ ap (λ o. grown c.args.bytes (option_map (λ t. t.bytes) o)) there))
