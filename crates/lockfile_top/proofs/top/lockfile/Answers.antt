use Rattle.std.proofs.Common.{sym, ◌∙◌}
use Rattle.lockfile_top.proofs.RunLemmas.{promised}
use Rattle.lockfile_top.proofs.top.lockfile.Goals as goal

pub returns-in-Ok-Some : goal.returns-in-Ok-Some
returns-in-Ok-Some g c = record { promise = promised _ (c.run_line.ensures _ _ (sym c.in-Ok-Some.ensures.line ∙ c.in-Ok-Some.field-0-is)) }
