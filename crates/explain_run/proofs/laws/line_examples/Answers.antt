use Rattle.std.proofs.Common.{refl}
use Rattle.bstr.proofs.Computing.{computing}
use Rattle.explain_run.proofs.laws.line_examples.Goals as goal

-- each by computing
pub returns : goal.returns
unfolding computing
returns c = record { filter = refl; second = refl; log = refl; quiet = refl }
