use Rattle.pm_objects.proofs.Notes.{place_notes}
use Rattle.pm_objects.proofs.objects.ObjectsEffects.place.Goals as goal

pub returns-clause-ok : goal.returns-clause-ok
returns-clause-ok g c = record {
  reply = c.in_ok-reply.reply;
  end_is = c.folder_end_of-end.ensures;
  notes =
      let e = rw (c.counts-before.ensures, c.counts-after.ensures) at c.note.ensures.entries in
      let h = rw c.as_slice.ensures at c.place-end.ensures in
      place_notes _ _ _ _ _ _ _ _ _ _ _ _ _ _ h c.in_ok-reply.ensures e c.note.ensures.room;
}
