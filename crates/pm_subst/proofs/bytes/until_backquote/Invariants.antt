use Rattle.std.proofs.Common.{◌≡◌, ◌+◌, drop, false}
use Rattle.pm_subst.specs.Bytes.{command_length}
use Rattle.pm_subst.proofs.bytes.until_backquote.Given as goal

abbrev pub invariant-loop-i : goal.invariant-loop-i
invariant-loop-i l = command_length false l.text ≡ l.i + command_length l.escaped (drop l.i l.text)
