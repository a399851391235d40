use Rattle.std.proofs.Common.{◌≡◌, ◌++◌, drop, map}
use Rattle.serde_json.specs.View.{view}
use Rattle.check_find.specs.Objects.{finding_data}
use Rattle.check_find.proofs.json.objects.Given as goal

abbrev pub invariant-loop-line : goal.invariant-loop-line
invariant-loop-line l = map view l.objects.items ++ map finding_data (drop l.line-index l.lines) ≡ map finding_data l.lines
