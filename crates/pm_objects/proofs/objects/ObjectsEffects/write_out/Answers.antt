use Rattle.pm_objects.proofs.Notes.{write_out_notes}
use Rattle.pm_objects.proofs.objects.ObjectsEffects.write_out.Goals as goal

pub returns : goal.returns
returns g c =
    let e = rw (c.say_reply_of.ensures, c.counts-before.ensures, c.counts-after.ensures) at c.note.ensures.entries in
    let h = rw c.as_slice.ensures at c.write_text-end.ensures.written in
    rw c.write_text-end.ensures.same (write_out_notes _ _ _ _ _ _ _ _ _ h e c.note.ensures.room)
