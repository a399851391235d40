use Rattle.std.proofs.Common.{length, ◌-◌, ◌≤◌}
use Rattle.pm_regex.specs.Machine.{State}
use Rattle.pm_regex.specs.Reader.{ReaderIs}
use Rattle.pm_regex.proofs.ReadLemmas.{IsParsedTo}
use Rattle.pm_regex.proofs.reading.read_tokens.Given as goal

abbrev pub invariant-loop-place : goal.invariant-loop-place
invariant-loop-place l = record {
  within : l.place ≤ length l.text;
  state : State;
  reader : ReaderIs l.reader state;
  parsed : IsParsedTo l.text l.place state;
}

abbrev pub decreases-loop-place : goal.decreases-loop-place
decreases-loop-place l = length l.text - l.place
