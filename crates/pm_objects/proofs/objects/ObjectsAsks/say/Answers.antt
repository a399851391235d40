use Rattle.pm_objects.proofs.Notes.{say_file_notes, say_err_notes}
use Rattle.pm_objects.proofs.objects.ObjectsAsks.say.Goals as goal

pub returns-in-Some : goal.returns-in-Some
returns-in-Some g c =
    let e = rw (c.append_reply_of.ensures, c.counts-before.ensures, c.counts-after.ensures) at c.note.ensures.entries in
    let h = rw c.as_slice.ensures at c.append_by-end.ensures.appends in
    rw c.in-Some.is (record { reply = _; notes = say_file_notes _ _ _ _ _ _ _ _ _ _ h e c.note.ensures.room })

pub returns-in-None : goal.returns-in-None
returns-in-None g c =
    let e = rw (c.say_reply_of.ensures, c.counts-before.ensures, c.counts-after-in-None.ensures) at c.note-in-None.ensures.entries in
    let h = rw c.as_slice-in-None.ensures at c.write_text-end.ensures in
    rw c.in-None.is (record { reply = _; notes = say_err_notes _ _ _ _ _ _ _ _ _ h e c.note-in-None.ensures.room })
