use Rattle.std.proofs.Common.{refl}
use Rattle.explain_run.proofs.laws.examples.Goals as goal

-- each by computing
pub returns : goal.returns
returns c = record {
  starts = record { each = refl; last = refl; unjudged = refl; other_recipe = refl; second = refl; backquotes = refl; given = refl; own_code = refl; captured = refl; captured_after_condition = refl; not_captured = refl; not_tried = refl; no_score = refl; after_commands = refl; unknown = refl };
  captures = record { output = refl; line = refl; lock = refl; filter = refl; inner = refl; no_step = refl };
  scripts = record { first = refl; second = refl; no_more = refl; lost = refl; at_place = refl; starts = refl; again = refl; below = refl; other_program = refl; other_place = refl; other_purpose = refl; both = refl; gone = refl };
}
