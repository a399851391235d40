use Rattle.std.proofs.Common.{refl}
use Rattle.pm_journal.specs.LogText.{couldnt_read_line}
use Rattle.pm_journal.proofs.WantsMemory.{out_anywhere}
use Rattle.pm_meaning.specs.Minds.{mind_of}
use Rattle.pm_meaning.specs.Turns.{say_then}
use Rattle.pm_meaning.proofs.Choices.{line_told, line_out}
use Rattle.pm_run.proofs.rcfiles.tell_unread.Goals as goal

pub returns-in-Err-clause-carries : goal.returns-in-Err-clause-carries
returns-in-Err-clause-carries g c = λ next. (tt, out_anywhere (say_then (mind_of c.args.run.now.process) (couldnt_read_line c.args.name.now) next) _ _ _ refl)

pub returns-in-Err-tell-clause-carries : goal.returns-in-Err-tell-clause-carries
returns-in-Err-tell-clause-carries g c = λ next. (tt, line_out (mind_of c.args.run.now.process) (couldnt_read_line c.args.name.now) c.in-Ok.line next _ _ _ _ c.in-Ok.ensures c.in-Err-tell.ensures.carries.1)

pub returns-in-Ok-tell-clause-carries : goal.returns-in-Ok-tell-clause-carries
returns-in-Ok-tell-clause-carries g c = λ next. (line_told (mind_of c.args.run.now.process) (couldnt_read_line c.args.name.now) c.in-Ok.line next _ _ _ _ c.in-Ok.ensures c.in-Ok-tell.ensures.carries.0, tt)
