use Rattle.std.proofs.Common.{◌≡◌, drop}
use Rattle.pm_top.specs.Words.{has_some, asked, all_bytes, command_line}
use Rattle.pm_top.specs.Reading.{at, line_of}
use Rattle.pm_top.proofs.words.make_line.Given as goal

abbrev pub invariant-loop-word : goal.invariant-loop-word
invariant-loop-word l = record {
  named : has_some l.lists.rcfiles.items ≡ l.place.named;
  reads : asked l.place.next (at l.place (line_of l.lists)) (all_bytes (drop l.word-index l.words)) ≡ command_line l.words;
}
