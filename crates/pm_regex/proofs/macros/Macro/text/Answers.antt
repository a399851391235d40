use Rattle.std.proofs.Common.{sym, ap}
use Rattle.pm_regex.specs.Macros.{macro_text}
use Rattle.pm_regex.proofs.macros.Macro.text.Goals as goal

pub returns-in-ToAddress : goal.returns-in-ToAddress
unfolding macro_text
returns-in-ToAddress c = ap macro_text (sym c.in-ToAddress.is)

pub returns-in-ToWord : goal.returns-in-ToWord
unfolding macro_text
returns-in-ToWord c = ap macro_text (sym c.in-ToWord.is)

pub returns-in-FromDaemon : goal.returns-in-FromDaemon
unfolding macro_text
returns-in-FromDaemon c = ap macro_text (sym c.in-FromDaemon.is)

pub returns-in-FromMailer : goal.returns-in-FromMailer
unfolding macro_text
returns-in-FromMailer c = ap macro_text (sym c.in-FromMailer.is)
