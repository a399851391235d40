use Rattle.std.proofs.Common.{refl, ap, ◌∙◌, sym}
use Rattle.std.specs.Option.{option_copied_mut}
use Rattle.pm_vars.specs.Held.{live}
use Rattle.pm_vars.proofs.Entries.{without-entries, without-absent}
use Rattle.pm_vars.proofs.values.remove.Goals as goal

pub returns-in-Some : goal.returns-in-Some
returns-in-Some c =
    ap live (c.get_mut.follows.holds _).0
    ∙ without-entries (λ k. k.items) (λ held. held.value) c.args.name.now _ c.args.held.now.entries c.get_mut.ensures.unique refl

pub returns-in_default : goal.returns-in_default
returns-in_default c =
    ap (λ m. live m.entries) c.get_mut.follows.holds-at-none
    ∙ sym (without-absent (λ k. k.items) (λ held. held.value) c.args.name.now c.args.held.now.entries (sym c.get_mut.ensures.value ∙ ap option_copied_mut c.in_default.is))
