use Rattle.std.proofs.Common.{◌≡◌, ◌++◌, drop}
use Rattle.pm_journal.specs.LogText.{quoted}
use Rattle.pm_meaning.proofs.abstracts.push_quoted.Given as goal

abbrev pub invariant-loop-byte : goal.invariant-loop-byte
invariant-loop-byte l = l.fn.text.items ++ quoted l.bytes ≡ l.text.items ++ quoted (drop l.byte-index l.bytes)
