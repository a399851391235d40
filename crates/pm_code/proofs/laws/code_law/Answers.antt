use Rattle.pm_code.proofs.Reading.{lists-whole}
use Rattle.pm_code.proofs.Places.{between-ahead, between-once}
use Rattle.pm_code.proofs.laws.code_law.Goals as goal

pub returns : goal.returns
returns c = record { whole = lists-whole; ahead = between-ahead; once = between-once }
