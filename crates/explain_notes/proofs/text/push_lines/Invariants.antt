use Rattle.std.proofs.Common.{◌≡◌, ◌++◌, drop, flat_map}
use Rattle.explain_notes.specs.Explained.{shown_line}
use Rattle.explain_notes.proofs.text.push_lines.Given as goal

abbrev pub invariant-loop-one : goal.invariant-loop-one
invariant-loop-one l = l.text ++ flat_map shown_line (drop l.one-index l.shown) ≡ l.fn.text ++ flat_map shown_line l.shown
