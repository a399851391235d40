use Rattle.std.proofs.Common.{◌≡◌, drop, option_copied}
use Rattle.explain_notes.specs.Reads.{last_from, last_read}
use Rattle.explain_notes.proofs.reads.last_read.Given as goal

abbrev pub invariant-loop-read : goal.invariant-loop-read
invariant-loop-read l = last_from (drop l.read-index l.reads) l.name l.entries (option_copied l.found) ≡ last_read l.reads l.name l.entries
