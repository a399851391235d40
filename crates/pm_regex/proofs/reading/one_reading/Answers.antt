use Rattle.pm_regex.proofs.ReadLemmas.{one_reading_of}
use Rattle.pm_regex.proofs.reading.one_reading.Goals as goal

pub returns : goal.returns
returns c = λ text e f. one_reading_of text e f
