use Rattle.std.proofs.Common.{◌≡◌, ◌+◌, drop}
use Rattle.pm_subst.specs.Bytes.{plain_length}
use Rattle.pm_subst.proofs.bytes.plain_front.Given as goal

abbrev pub invariant-loop-i : goal.invariant-loop-i
invariant-loop-i l = plain_length l.quoted l.text ≡ l.i + plain_length l.quoted (drop l.i l.text)
