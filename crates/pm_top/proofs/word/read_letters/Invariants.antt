use Rattle.std.proofs.Common.{◌≡◌, drop}
use Rattle.pm_meaning.specs.declared.command_line.CommandLine.{CommandLine}
use Rattle.pm_top.specs.Words.{letters}
use Rattle.pm_top.specs.Reading.{at}
use Rattle.pm_top.specs.declared.place.Next.TheVariants.{Any}
use Rattle.pm_top.proofs.word.read_letters.Given as goal

abbrev pub invariant-loop-k : goal.invariant-loop-k
invariant-loop-k l = record {
  reads : (line : CommandLine) → letters (drop l.k l.word) (at l.now line) ≡ letters (drop 1 l.word) (at l.fn.place line);
  named : l.now.named ≡ l.fn.place.named;
  next : l.now.next ≡ Any;
}
