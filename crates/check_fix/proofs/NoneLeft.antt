-- No conditions.
use Rattle.std.proofs.Common.{◌≡◌, refl, true, List, [], ◌∷◌}
use Rattle.pm_recipe.specs.declared.spans.Span.{Span}
use Rattle.check_fix.specs.Counts.{follow, star_edits}

-- they follow
pub none_follow : (spans : List Span) → follow 0 spans ≡ true
none_follow [] = refl
none_follow (span ∷ spans) = refl

-- and get no stars
pub none_starred : (spans : List Span) → star_edits 0 spans ≡ []
none_starred [] = refl
none_starred (span ∷ spans) = refl
