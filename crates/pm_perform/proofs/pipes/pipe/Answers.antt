use Rattle.pm_meaning.specs.Minds.{mind_of}
use Rattle.pm_meaning.specs.ProgramActions.{pipe}
use Rattle.pm_perform.specs.Errands.{purpose_of}
use Rattle.pm_perform.specs.Programs.{reading_of}
use Rattle.pm_meaning.proofs.Choices.{carried}
use Rattle.pm_perform.proofs.PipeLemmas.{is_pipe}
use Rattle.pm_perform.proofs.pipes.pipe.Goals as goal

pub returns-clause-carries : goal.returns-clause-carries
returns-clause-carries g c =
    let p = mind_of c.args.run.now.process in
    let o = c.args.order.now in
    let same =
    is_pipe o.flags o.lock.now o.text.now c.appended_name.result.now (purpose_of c.pipe_purpose.result) (reading_of c.line_reading-reading.result o.text.now) p c.appended_name.ensures c.pipe_purpose.ensures
    c.line_reading-reading.ensures in
    carried _ (pipe o.flags o.lock.now o.text.now p) _ _ _ _ _ _ same c.do_program.ensures.carries

pub returns-clause-sure : goal.returns-clause-sure
returns-clause-sure g c = c.do_program.ensures.sure
