use Rattle.std.proofs.Common.{rules, ap, ◌∙◌}
use Rattle.pm_vars.specs.Held.{live}
use Rattle.pm_vars.proofs.Entries.{seen-kept}
use Rattle.indexmap.proofs.CallerLemmas.{filter-RetainsPairs}
use Rattle.pm_vars.proofs.values.drop_gone.Goals as goal

pub returns : goal.returns
returns c =
    ap live (filter-RetainsPairs _ _ _ (λ k v b w g call. search rules) _ _ c.retain.ensures.filtered)
    ∙ seen-kept (λ k. k.items) (λ held. held.value) c.args.held.now.entries
