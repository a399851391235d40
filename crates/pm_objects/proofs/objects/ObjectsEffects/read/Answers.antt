use Rattle.pm_journal.specs.Contents.{read_reply}
use Rattle.pm_objects.proofs.Notes.{read_notes}
use Rattle.pm_objects.proofs.objects.ObjectsEffects.read.Goals as goal

pub returns-clause-ok : goal.returns-clause-ok
returns-clause-ok g c = record {
  reply = read_reply c.in_ok-end.end;
  content_is = c.in_ok-content.ensures;
  notes =
      let e = rw (c.read_reply_of.ensures, c.counts-before.ensures, c.counts-after.ensures) at c.note.ensures.entries in
      read_notes _ _ _ _ _ _ _ _ _ c.in_ok-end.ensures.ok e c.note.ensures.room;
}
