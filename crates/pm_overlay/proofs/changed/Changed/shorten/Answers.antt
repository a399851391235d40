use Rattle.std.proofs.Common.{◌≡◌, ap, ap₂, sym, subst, ◌∙◌, take, string_bytes}
use Rattle.pm_host.specs.World.{kept}
use Rattle.pm_overlay.specs.Changes.{changed, front_with, front_length}
use Rattle.pm_overlay.proofs.Lists.{shortened}
use Rattle.pm_overlay.proofs.changed.Changed.shorten.Goals as goal

pub returns-in-Grown : goal.returns-in-Grown
returns-in-Grown c = λ w e.
    let from = w.nodes (string_bytes c.in-Grown.grown.from) in
    ap₂ (λ a b. front_with from w.moment a b) c.min-grown.ensures (c.keep_front-in-Grown.ensures ∙ ap (λ i. take i c.in-Grown.grown.more) c.saturating_sub.ensures)
    ∙ shortened from w.moment c.in-Grown.grown.kept c.args.front c.args.len c.in-Grown.grown.more (subst (λ s. c.args.front ≡ front_length s w) c.in-Grown.is e)
    ∙ ap (λ s. kept (changed s w) c.args.len) (sym c.in-Grown.is)
