use Rattle.std.proofs.Common.{refl}
use Rattle.pm_meaning.specs.Minds.{mind_of}
use Rattle.pm_meaning.specs.ProgramActions.{Captures, capture_line}
use Rattle.pm_perform.specs.Programs.{reading_of}
use Rattle.pm_meaning.proofs.Choices.{carried}
use Rattle.pm_perform.proofs.PipeLemmas.{is_capture}
use Rattle.pm_perform.proofs.pipes.capture.Goals as goal

pub returns-clause-carries : goal.returns-clause-carries
returns-clause-carries g c =
    let p = mind_of c.args.run.now.process in
    let o = c.args.order.now in
    let name = c.args.name.now in
    let same =
    is_capture o.flags o.lock.now o.text.now c.appended_name.result.now (Captures name) (reading_of c.line_reading-reading.result o.text.now) p name c.appended_name.ensures refl c.line_reading-reading.ensures in
    carried _ (capture_line o.flags o.lock.now name o.text.now p) _ _ _ _ _ _ same c.do_program.ensures.carries

pub returns-clause-sure : goal.returns-clause-sure
returns-clause-sure g c = c.do_program.ensures.sure
