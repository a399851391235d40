use Rattle.std.proofs.Common.{map, ap}
use Rattle.pm_run.specs.Copies.{task_of}
use Rattle.pm_run.specs.Nested.{frame_of, items_in}
use Rattle.pm_run.proofs.queue.Queue.next.Goals as goal

pub returns-in-Some-clause-next : goal.returns-in-Some-clause-next
returns-in-Some-clause-next c = (
  task_of c.in-Some.copy,
  ap (map task_of) c.in-Some.ensures.items,
  record {
    items = ap (λ frames. items_in (map frame_of frames.items)) c.task_for.ensures.frames;
    opening = c.task_for.ensures.opening;
    mind = c.task_for.ensures.mind;
    rcfiles = c.task_for.ensures.rcfiles;
    rcfile = c.task_for.ensures.rcfile;
  },
)
