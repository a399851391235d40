use Rattle.std.proofs.Common.{◌≡◌, ◌≤◌, drop}
use Rattle.explain_run.specs.Programs.{program_from, program_at}
use Rattle.explain_run.proofs.programs.program_at.Given as goal

-- the rest has the program, and there are no more programs before it than entries
abbrev pub invariant-loop-entry : goal.invariant-loop-entry
invariant-loop-entry l = (l.before ≤ l.entry-index) × (program_from l.place l.before (drop l.entry-index l.entries) ≡ program_at l.entries l.place)
