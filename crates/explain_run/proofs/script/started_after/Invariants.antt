use Rattle.std.proofs.Common.{◌≡◌, ◌++◌, drop, flat_map}
use Rattle.explain_run.specs.Scripts.{kept}
use Rattle.explain_run.proofs.script.started_after.Given as goal

abbrev pub invariant-loop-place : goal.invariant-loop-place
invariant-loop-place l = l.places.items ++ flat_map (kept l.old l.new) (drop l.place-index l.started) ≡ flat_map (kept l.old l.new) l.started
