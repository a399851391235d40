use Rattle.std.proofs.Common.{◌≡◌, ◌++◌, map}
use Rattle.test_text.specs.Cuts.{trimmed}
use Rattle.test_text.specs.Expected.{part_of, parts_of}
use Rattle.test_text.proofs.expected.parts_of.Given as goal

abbrev pub invariant-loop-piece : goal.invariant-loop-piece
invariant-loop-piece l = l.parts.items ++ map (λ piece. part_of (trimmed piece)) l.piece-iterator ≡ parts_of l.fn.text
