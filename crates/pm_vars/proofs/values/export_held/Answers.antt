use Rattle.std.proofs.Common.{◌≡◌, ◌++◌, ◌∷◌, [], List, None, Some, filter, map, ap, sym, ◌∙◌, append-nil, ℕ, Vec, Bor}
use Rattle.std.specs.Global.{Global}
use Rattle.std.specs.Map.Iter.{deref_pair}
use Rattle.std.proofs.lemmas.List.{map-append}
use Rattle.std.proofs.lemmas.List.Elements.{filter-append}
use Rattle.pm_vars.specs.Held.{live}
use Rattle.pm_vars.specs.declared.held.Held.{Held}
use Rattle.pm_vars.specs.Variables.{Variable, is_exported}
use Rattle.pm_vars.proofs.Entries.{seen-more}
use Rattle.pm_vars.proofs.values.export_held.Goals as goal

pub loop-name-preserved-in-Continue-1 : goal.loop-name-preserved-in-Continue-1
loop-name-preserved-in-Continue-1 c =
    let before = live (map deref_pair c.loop-name.yielded) in
    let entry : Bor (Vec ℕ Global) × Bor Held = (c.in-Some.name, c.in-Some.found) in
    let variable : List Variable = record { name = c.in-Some.name.now.items; value = c.in-Some-value.value } ∷ [] in
    let more : live (map deref_pair (c.loop-name.yielded ++ entry ∷ [])) ≡ before ++ variable =
    ap live (map-append deref_pair c.loop-name.yielded (entry ∷ [])) ∙ seen-more (λ k. k.items) (λ h. h.value) (map deref_pair c.loop-name.yielded) (deref_pair entry) (Some c.in-Some-value.value) c.in-Some-value.is in
    rw (c.deref.ensures.value, c.as_slice.ensures) at c.in_ok-push_exported.ensures ∙ ap (λ l. l ++ filter is_exported variable) c.loop-name.invariant ∙ sym (ap (filter is_exported) more ∙ filter-append is_exported before variable)

pub loop-name-preserved : goal.loop-name-preserved
loop-name-preserved c =
    let before = live (map deref_pair c.loop-name.yielded) in
    let entry : Bor (Vec ℕ Global) × Bor Held = (c.in-Some.name, c.in-Some.found) in
    let same : live (map deref_pair (c.loop-name.yielded ++ entry ∷ [])) ≡ before ++ [] =
    ap live (map-append deref_pair c.loop-name.yielded (entry ∷ [])) ∙ seen-more (λ k. k.items) (λ h. h.value) (map deref_pair c.loop-name.yielded) (deref_pair entry) None c.in_default.is in
    c.loop-name.invariant ∙ sym (ap (filter is_exported) (same ∙ append-nil before))
