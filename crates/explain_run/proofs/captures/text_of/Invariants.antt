use Rattle.std.proofs.Common.{◌≡◌, drop, option_copied}
use Rattle.explain_run.specs.Captures.{text_from, text_of}
use Rattle.explain_run.proofs.captures.text_of.Given as goal

abbrev pub invariant-loop-entry : goal.invariant-loop-entry
invariant-loop-entry l = text_from l.name (drop l.entry-index l.entries) (option_copied l.found) ≡ text_of l.name l.entries
