use Rattle.std.proofs.Common.{◌≡◌, ◌++◌, drop, map}
use Rattle.serde_json.specs.View.{view}
use Rattle.check_find.specs.Objects.{result_data}
use Rattle.check_find.proofs.sarif.results.Given as goal

abbrev pub invariant-loop-line : goal.invariant-loop-line
invariant-loop-line l = map view l.results.items ++ map result_data (drop l.line-index l.lines) ≡ map result_data l.lines
