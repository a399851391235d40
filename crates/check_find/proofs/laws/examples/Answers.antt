use Rattle.std.proofs.Common.{refl}
use Rattle.check_find.proofs.laws.examples.Goals as goal

pub returns-clause-conditions : goal.returns-clause-conditions
returns-clause-conditions c = record {
  weight = refl;
  unit = refl;
  number = refl;
  inverted = refl;
  weighted = refl;
  variable = refl;
  later = refl;
  program = refl;
}

pub returns-clause-lines : goal.returns-clause-lines
returns-clause-lines c = record { none = refl; skipped = refl; wanting = refl; block = refl }

pub returns-clause-columns : goal.returns-clause-columns
returns-clause-columns c = record { first = refl; second = refl }
