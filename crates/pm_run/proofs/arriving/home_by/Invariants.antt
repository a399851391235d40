use Rattle.std.proofs.Common.{◌≡◌, drop, false}
use Rattle.std.specs.Str.{IsUtf8}
use Rattle.pm_bytes.specs.Name.{has_zero}
use Rattle.pm_meaning.specs.Running.{home_by}
use Rattle.pm_run.proofs.arriving.home_by.Given as goal

abbrev pub invariant-loop-value : goal.invariant-loop-value
invariant-loop-value l = (home_by (drop l.value-index l.values) l.found ≡ home_by l.values l.home) × (has_zero l.found ≡ false) × IsUtf8 l.found
