use Rattle.std.proofs.Common.{refl}
use Rattle.pm_locks.proofs.laws.examples.Goals as goal

-- each by computing
pub returns : goal.returns
returns c = record {
  at_once = refl;
  next_try = refl;
  last_try = refl;
  thousand_tries = refl;
  by_force = refl;
  gone_by_then = refl;
  long_file = refl;
  directory = refl;
  gone_at_age = refl;
  gone_at_look = refl;
  no_force = refl;
  most_forced = refl;
  no_create = refl;
  no_age = refl;
  no_look = refl;
  no_removal = refl;
  given_back = refl;
  given_where_gone = refl;
  not_given = refl;
}
