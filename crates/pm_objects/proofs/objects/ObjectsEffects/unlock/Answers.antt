use Rattle.pm_objects.proofs.Notes.{unlock_notes}
use Rattle.pm_objects.proofs.objects.ObjectsEffects.unlock.Goals as goal

pub returns : goal.returns
returns g c =
    let e = rw (c.unlock_reply_of.ensures, c.counts-before.ensures, c.counts-after.ensures) at c.note.ensures.entries in
    let h = rw c.as_str.ensures.same at c.remove-removed.ensures in
    unlock_notes _ _ _ _ _ _ _ _ _ h e c.note.ensures.room
