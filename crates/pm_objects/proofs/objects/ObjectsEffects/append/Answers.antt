use Rattle.pm_objects.proofs.Notes.{append_notes}
use Rattle.pm_objects.proofs.objects.ObjectsEffects.append.Goals as goal

pub returns : goal.returns
returns g c =
    let e = rw (c.append_reply_of.ensures, c.counts-before.ensures, c.counts-after.ensures) at c.note.ensures.entries in
    let h = rw c.as_slice.ensures at c.append_by-end.ensures.appends in
    append_notes _ _ _ _ _ _ _ _ _ _ h e c.note.ensures.room
