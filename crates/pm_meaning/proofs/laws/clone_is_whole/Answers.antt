use Rattle.std.proofs.Common.{refl}
use Rattle.pm_meaning.proofs.laws.clone_is_whole.Goals as goal

pub returns : goal.returns
returns c = λ trees rest p. record {
  filter = refl;
  softly = refl;
  mail = refl;
  vars = refl;
  base = refl;
  host = refl;
  rcfile = refl;
  later = refl;
  placed = refl;
  openings = refl;
  stored = refl;
  no_lock = refl;
  no_global = refl;
}
