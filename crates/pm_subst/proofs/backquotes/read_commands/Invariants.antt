use Rattle.std.proofs.Common.{◌≡◌, ◌≤◌, ◌++◌, ◌-◌, length, drop, zero}
use Rattle.pm_subst.specs.Commands.{commands_in, commands_of}
use Rattle.pm_subst.specs.Tokens.{tokens}
use Rattle.pm_subst.proofs.backquotes.read_commands.Given as goal

abbrev pub invariant-loop-at : goal.invariant-loop-at
invariant-loop-at l = record {
  within : l.at ≤ length l.text;
  goes_on : commands_in l.mode l.text ≡ l.commands.items ++ commands_of (tokens l.mode zero l.frames l.fresh (drop l.at l.text));
}

abbrev pub decreases-loop-at : goal.decreases-loop-at
decreases-loop-at l = length l.text - l.at
