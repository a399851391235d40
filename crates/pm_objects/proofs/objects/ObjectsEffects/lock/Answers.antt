use Rattle.pm_objects.proofs.Notes.{lock_notes}
use Rattle.pm_objects.proofs.objects.ObjectsEffects.lock.Goals as goal

pub returns : goal.returns
returns g c =
    let e = rw (c.lock_reply_of.ensures, c.counts-before.ensures, c.counts-after.ensures) at c.note.ensures.entries in
    lock_notes _ _ _ _ _ _ _ _ _ _ c.take_lock-end.ensures.takes e c.note.ensures.room
