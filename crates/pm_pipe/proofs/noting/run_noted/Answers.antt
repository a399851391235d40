use Rattle.std.proofs.Common.{rules}
use Rattle.pm_journal.proofs.WantsMemory.{on_err}
use Rattle.pm_pipe.proofs.RunNotes.{run_notes, run_left, run_wanted}
use Rattle.pm_pipe.proofs.noting.run_noted.Goals as goal

pub returns-in_err-reply-clause-ok : goal.returns-in_err-reply-clause-ok
returns-in_err-reply-clause-ok g c out err o s = search rules

pub returns-in_err-reply-clause-wanted : goal.returns-in_err-reply-clause-wanted
returns-in_err-reply-clause-wanted g c = on_err _ _ (run_wanted _ _ _ _ _ _ _ c.run_child-end.ensures.runs c.in_err-reply.ensures)

pub returns-in_err-reply-clause-left : goal.returns-in_err-reply-clause-left
returns-in_err-reply-clause-left g c out err =
    let h = rw c.as_slice.ensures at c.run_child-end.ensures.runs in
    on_err _ _ (run_left _ _ _ _ _ _ _ out err h c.in_err-reply.ensures)

pub returns-clause-ok : goal.returns-clause-ok
returns-clause-ok g c out err o s = record {
  reply = c.in_ok-reply.reply;
  end_is = c.run_end_of-end.ensures;
  notes =
      let e = rw (c.counts-before.ensures, c.counts-after.ensures) at c.note.ensures.entries in
      let h = rw c.as_slice.ensures at c.run_child-end.ensures.runs in
      run_notes _ _ _ _ _ _ _ _ _ _ out err o s h c.in_ok-reply.ensures e c.note.ensures.room;
}
