use Rattle.pm_folders.proofs.FileLemmas.{made_so, goes_join, filed_here, moved_so, taken_back, cleared, ends_here}
use Rattle.pm_folders.proofs.file.file_under.Goals as goal

pub returns-in-Err : goal.returns-in-Err
returns-in-Err g c =
    let made = made_so _ _ _ _ _ (rw c.at.ensures at c.in-Made.ensures) in
    taken_back _ _ _ _ _ _ _ (goes_join _ _ _ _ _ _ _ _ made c.in-Err.ensures) c.remove_made.ensures

pub returns-in_default-to : goal.returns-in_default-to
returns-in_default-to g c =
    let made = made_so _ _ _ _ _ (rw c.at.ensures at c.in-Made.ensures) in
    let none = rw c.in_default-to.is at c.to.ensures in
    filed_here _ _ _ _ (goes_join _ _ _ _ _ _ _ _ made c.in_default.ensures) none

pub returns-in-Moved : goal.returns-in-Moved
returns-in-Moved g c =
    let made = made_so _ _ _ _ _ (rw c.at.ensures at c.in-Made.ensures) in
    let some = rw c.in-Some.is at c.to.ensures in
    let moves = rw c.at-2.ensures at c.in-Moved.ensures in
    ends_here _ _ _ _ _ (moved_so _ _ _ _ _ _ _ (goes_join _ _ _ _ _ _ _ _ made c.in_default.ensures) some moves)

pub returns-in-Taken : goal.returns-in-Taken
returns-in-Taken g c =
    let made = made_so _ _ _ _ _ (rw c.at.ensures at c.in-Made.ensures) in
    let some = rw c.in-Some.is at c.to.ensures in
    let moves = rw c.at-2.ensures at c.in-Taken.ensures in
    cleared _ _ _ _ _ _ (moved_so _ _ _ _ _ _ _ (goes_join _ _ _ _ _ _ _ _ made c.in_default.ensures) some moves) c.remove_made-in-Taken.ensures

pub returns-in-Failed-rename : goal.returns-in-Failed-rename
returns-in-Failed-rename g c =
    let made = made_so _ _ _ _ _ (rw c.at.ensures at c.in-Made.ensures) in
    let some = rw c.in-Some.is at c.to.ensures in
    let moves = rw c.at-2.ensures at c.in-Failed-rename.ensures in
    taken_back _ _ _ _ _ _ _ (moved_so _ _ _ _ _ _ _ (goes_join _ _ _ _ _ _ _ _ made c.in_default.ensures) some moves) c.remove_made-in-Failed-rename.ensures
