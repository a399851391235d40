use Rattle.std.proofs.Common.{◌≡◌, drop}
use Rattle.pm_meaning.specs.declared.command_line.CommandLine.{CommandLine}
use Rattle.pm_top.specs.Words.{has_some, asked, all_bytes, command_line}
use Rattle.pm_top.specs.Reading.{at}
use Rattle.pm_top.proofs.words.is_read.Given as goal

-- some line, with the options of this place, stands for the words so far
abbrev pub invariant-loop-word : goal.invariant-loop-word
invariant-loop-word l =
    (line : CommandLine) × (has_some line.rcfiles ≡ l.place.named)
    × (asked l.place.next (at l.place line) (all_bytes (drop l.word-index l.words)) ≡ command_line l.words)
