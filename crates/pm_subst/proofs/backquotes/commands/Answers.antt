use Rattle.std.proofs.Common.{sym, ◌∙◌}
use Rattle.pm_bytes.specs.Alphabet.{BACKQUOTE}
use Rattle.pm_subst.proofs.NoCommand.{no-command, lacks-nowhere}
use Rattle.pm_subst.proofs.backquotes.commands.Goals as goal

pub returns-in-None : goal.returns-in-None
returns-in-None c = c.new.ensures.items ∙ sym (no-command c.args.mode c.args.text.now (lacks-nowhere BACKQUOTE c.args.text.now c.in-None.ensures))
