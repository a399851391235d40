use Rattle.std.proofs.Common.{refl}
use Rattle.std.specs.Fmt.{digits}
use Rattle.explain_notes.specs.Lines.{blanks, why_line}
use Rattle.explain_notes.proofs.laws.examples.Goals as goal

-- each by computing
pub returns : goal.returns
unfolding digits blanks why_line
returns c = record {
  came = record { holds = refl; fails = refl; matched = refl; one = refl; several = refl; none = refl; size = refl; program = refl; defect = refl; long = refl };
  lines = record { recipe = refl; unknown = refl; after_match = refl; after_success = refl; otherwise = refl; on_error = refl; several_flags = refl; condition = refl; joined = refl; long = refl; no_line = refl };
  shown = record { run = refl; unread = refl };
}
