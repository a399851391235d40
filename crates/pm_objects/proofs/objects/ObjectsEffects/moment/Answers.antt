use Rattle.std.proofs.Common.{rules, w64}
use Rattle.std.proofs.Math.Facts.{to_z-of_z}
use Rattle.pm_objects.proofs.Notes.{moment_notes}
use Rattle.pm_objects.proofs.objects.ObjectsEffects.moment.Goals as goal

pub returns : goal.returns
returns g c =
    let moment = to_z-of_z {w = w64} {z = c.now-moment.result} (search rules) in
    let e = rw (c.counts-before.ensures, c.counts-after.ensures, moment) at c.note.ensures.entries in
    rw moment (moment_notes _ _ _ _ _ _ _ _ c.now-moment.ensures e c.note.ensures.room)
