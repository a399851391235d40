use Rattle.std.proofs.Common.{sym, ◌∙◌}
use Rattle.formail_top.proofs.OutputLemmas.{none_left}
use Rattle.formail_top.proofs.outputs.kept_mails.Goals as goal

pub returns-in_default : goal.returns-in_default
returns-in_default c = sym (none_left _ _ _ c.in_default.len_below) ∙ c.loop-keep.invariant
