use Rattle.pm_subst.proofs.Plain.{one-single-stands, many-single-stands, singles-stay}
use Rattle.pm_subst.proofs.laws.single_stands.Goals as goal

pub returns-clause-one : goal.returns-clause-one
returns-clause-one c = one-single-stands

pub returns-clause-many : goal.returns-clause-many
returns-clause-many c = many-single-stands

pub returns-clause-quoted : goal.returns-clause-quoted
returns-clause-quoted c = singles-stay
