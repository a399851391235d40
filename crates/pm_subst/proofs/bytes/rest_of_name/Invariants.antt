use Rattle.std.proofs.Common.{◌≡◌, ◌+◌, drop}
use Rattle.pm_subst.specs.Bytes.{name_length}
use Rattle.pm_subst.proofs.bytes.rest_of_name.Given as goal

abbrev pub invariant-loop-i : goal.invariant-loop-i
invariant-loop-i l = name_length l.text ≡ l.i + name_length (drop l.i l.text)
