use Rattle.pm_folders.proofs.PlaceLemmas.{mh_no_names, mh_left, mh_placed, numbered, there_of}
use Rattle.pm_folders.proofs.folders.place_mh.Goals as goal

pub returns-in-Failed-names : goal.returns-in-Failed-names
returns-in-Failed-names g c = λ prefix stamp.
    let made = rw c.as_str.ensures.same at c.make_folder.ensures in
    let lists = rw c.as_str-2.ensures.same at c.in-Failed-names.ensures in
    mh_no_names _ _ _ _ _ _ _ _ made (there_of c.make_folder.result c.in_default.not-Failed) lists

pub returns-in-Memory : goal.returns-in-Memory
returns-in-Memory g c = λ prefix stamp.
    let made = rw c.as_str.ensures.same at c.make_folder.ensures in
    let lists = rw c.as_str-2.ensures.same at c.in-Memory.ensures in
    mh_left _ _ _ _ _ _ _ _ _ made (there_of c.make_folder.result c.in_default.not-Failed) lists

pub returns-in-Ok : goal.returns-in-Ok
returns-in-Ok g c = λ prefix stamp.
    let made = rw c.as_str.ensures.same at c.make_folder.ensures in
    let lists = rw c.as_str-2.ensures.same at c.in-Names.ensures in
    let are = rw (c.first_number.ensures.is, c.as_slice.ensures) at c.in-Ok.ensures in
    mh_placed _ _ _ _ _ _ _ _ _ _ _ _ made (there_of c.make_folder.result c.in_default.not-Failed) lists (numbered _ _ are) c.file_in_first.ensures

pub returns : goal.returns
returns g c = λ prefix stamp.
    let made = rw c.as_str.ensures.same at c.make_folder.ensures in
    let lists = rw c.as_str-2.ensures.same at c.in-Names.ensures in
    mh_left _ _ _ _ _ _ _ _ _ made (there_of c.make_folder.result c.in_default.not-Failed) lists
