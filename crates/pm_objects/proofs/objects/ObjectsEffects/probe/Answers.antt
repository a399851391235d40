use Rattle.pm_objects.proofs.Notes.{probe_notes}
use Rattle.pm_objects.proofs.objects.ObjectsEffects.probe.Goals as goal

pub returns : goal.returns
returns g c =
    let e = rw (c.counts-before.ensures, c.counts-after.ensures) at c.note.ensures.entries in
    let h = rw c.as_str.ensures.same at c.look-looked.ensures in
    probe_notes _ _ _ _ _ _ _ _ _ h e c.note.ensures.room
