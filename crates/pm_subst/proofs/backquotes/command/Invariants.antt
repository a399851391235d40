use Rattle.std.proofs.Common.{◌≡◌, ◌++◌, drop, false}
use Rattle.pm_subst.specs.Commands.{command_text}
use Rattle.pm_subst.proofs.backquotes.command.Given as goal

abbrev pub invariant-loop-byte : goal.invariant-loop-byte
invariant-loop-byte l = command_text false l.text ≡ l.command.items ++ command_text l.escaped (drop l.byte-index l.text)
