use Rattle.std.proofs.Common.{◌≡◌, ◌++◌, drop}
use Rattle.explain_notes.specs.Reads.{reads_from}
use Rattle.explain_notes.proofs.reads.reads_of.Given as goal

-- what was read so far, and what is read after that
abbrev pub invariant-loop-index : goal.invariant-loop-index
invariant-loop-index l = l.reads.items ++ reads_from l.index (drop l.index l.entries) ≡ reads_from 0 l.entries
