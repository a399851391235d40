use Rattle.std.proofs.Common.{◌≡◌, ◌+◌, drop}
use Rattle.pm_subst.specs.Bytes.{quote_length}
use Rattle.pm_subst.proofs.bytes.until_single.Given as goal

abbrev pub invariant-loop-i : goal.invariant-loop-i
invariant-loop-i l = quote_length l.text ≡ l.i + quote_length (drop l.i l.text)
