use Rattle.pm_subst.proofs.Plain.{blanks-part, one-one-word, quoted-one-word}
use Rattle.pm_subst.proofs.laws.blanks_part.Goals as goal

pub returns-clause-many : goal.returns-clause-many
returns-clause-many c = blanks-part

pub returns-clause-one : goal.returns-clause-one
returns-clause-one c = one-one-word

pub returns-clause-quoted : goal.returns-clause-quoted
returns-clause-quoted c = quoted-one-word
