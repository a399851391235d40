use Rattle.std.proofs.Common.{◌≡◌, ◌++◌, drop}
use Rattle.std.specs.List.{flat_map}
use Rattle.check_find.specs.Lines.{line_of}
use Rattle.check_find.proofs.line.lines_text.Given as goal

abbrev pub invariant-loop-line : goal.invariant-loop-line
invariant-loop-line l = l.text.items ++ flat_map line_of (drop l.line-index l.lines) ≡ flat_map line_of l.lines
