-- What the steps of the builder do together.
use Rattle.std.proofs.Common.{◌+◌, ◌-◌, ap, ◌∙◌}
use Rattle.pm_recipe.specs.declared.building.Builder.{Builder}
use Rattle.pm_recipe.specs.declared.fronts.Situation.{Situation}
use Rattle.pm_recipe.specs.declared.fronts.Kind.{Kind}
use Rattle.pm_recipe.specs.declared.fronts.Kind.TheVariants as kind
use Rattle.pm_recipe.specs.Spans.{Span, situation_after}
use Rattle.pm_recipe.specs.Reads.{item_of}
use Rattle.pm_recipe.specs.Builder.{Suits}
use Rattle.pm_recipe.specs.Steps.{Builds}

-- the builder goes on to the situation after a span
pub suits-after : (old new : Builder) (span : Span) (sort : Kind) (situation : Situation) → Builds old new (item_of span sort) → Suits old situation
    → Suits new (situation_after sort situation)
suits-after old new span kind.Gap situation t s = record { begun = t.begun ∙ s.begun; levels = t.depth ∙ s.levels }
suits-after old new span kind.Colon situation t s = record { begun = t.begun; levels = t.depth ∙ s.levels }
suits-after old new span kind.Condition situation t s = record { begun = t.begun ∙ s.begun; levels = t.depth ∙ s.levels }
suits-after old new span kind.Mailbox situation t s = record { begun = t.begun; levels = t.depth ∙ s.levels }
suits-after old new span kind.Pipe situation t s = record { begun = t.begun; levels = t.depth ∙ s.levels }
suits-after old new span kind.WriteOut situation t s = record { begun = t.begun; levels = t.depth ∙ s.levels }
suits-after old new span kind.Capture situation t s = record { begun = t.begun; levels = t.depth ∙ s.levels }
suits-after old new span kind.Forward situation t s = record { begun = t.begun; levels = t.depth ∙ s.levels }
suits-after old new span kind.Open situation t s = record { begun = t.begun; levels = t.depth ∙ ap (λ n. n + 1) s.levels }
suits-after old new span kind.TooDeep situation t s = record { begun = t.begun; levels = t.depth ∙ s.levels }
suits-after old new span kind.Close situation t s = record { begun = t.begun; levels = t.depth ∙ ap (λ n. n - 1) s.levels }
suits-after old new span kind.Assign situation t s = record { begun = t.begun; levels = t.depth ∙ s.levels }
suits-after old new span kind.Unset situation t s = record { begun = t.begun; levels = t.depth ∙ s.levels }
suits-after old new span kind.Skipped situation t s = record { begun = t.begun; levels = t.depth ∙ s.levels }
