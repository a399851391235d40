use Rattle.std.proofs.Common.{refl}
use Rattle.check_find.specs.Uris.{path_of}
use Rattle.check_find.proofs.laws.uri_examples.Goals as goal

pub returns : goal.returns
unfolding path_of
returns c = record {
  unreserved = refl;
  slashes = refl;
  blank = refl;
  percent = refl;
  ends = refl;
  scheme = refl;
  reserved = refl;
  others = refl;
  control = refl;
  letter = refl;
}
