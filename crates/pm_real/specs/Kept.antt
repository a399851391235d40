-- The file that is kept open, as a machine: how each call on a name changes what is known of it.
use Rattle.std.specs.Prelude.{◌≡◌, ◌≤◌, ◌&&◌, ℕ, ◌+◌, ◌-◌, ◌^◌, min, nat_le, Bool, true, false, List, [], ◌∷◌, bytes_eq, Option, Some, None, if◌then◌else◌, option_and_then, unwrap_or}
use Rattle.pm_real.specs.View.{FileView}
use Rattle.pm_real.specs.declared.mode.Mode.{Mode}
use Rattle.pm_real.specs.declared.mode.Mode.TheVariants.{Reading, Appending}

-- a file that was just opened
abbrev pub just_opened : List ℕ → Mode → FileView
just_opened name mode = record { name = name; mode = mode; added = None; passed = 0; is_target = false }

abbrev pub same_mode : Mode → Mode → Bool
same_mode Reading Reading = true
same_mode Appending Appending = true
same_mode one other = false

-- the file was opened by this name for this
abbrev pub is_use : List ℕ → Mode → FileView → Bool
is_use name mode file = same_mode file.mode mode && bytes_eq file.name name

-- a file is open that was
abbrev pub is_open : List ℕ → Mode → Option FileView → Bool
is_open name mode None = false
is_open name mode (Some file) = is_use name mode file

-- the file that a call by this name uses: the open one, if it was opened so, and else one that is just opened
abbrev pub in_use : List ℕ → Mode → Option FileView → FileView
in_use name mode None = just_opened name mode
in_use name mode (Some file) = if is_use name mode file then file else just_opened name mode

-- the file once a look at this name found it there: as one that was just opened, if it was opened by this name for
-- appending; any other isn't used any more
abbrev pub found_again : List ℕ → Option FileView → Option FileView
found_again name file = if is_open name Appending file then Some (just_opened name Appending) else None

-- it was made as the target of a symbolic link of this name
abbrev pub is_target_of : List ℕ → FileView → Bool
is_target_of name file = file.is_target && bytes_eq file.name name

abbrev pub is_open_target : List ℕ → Option FileView → Bool
is_open_target name None = false
is_open_target name (Some file) = is_target_of name file

-- it was just made as a target
abbrev pub made_target : FileView → FileView
made_target file = record file { added = Some 0; is_target = true }

-- so many bytes more were appended, and so many more were read in sequence
abbrev pub appended : ℕ → FileView → FileView
appended count file = record file { added = Some (min (unwrap_or file.added 0 + count) (2 ^ 64 - 1)) }

abbrev pub read_past : ℕ → FileView → FileView
read_past count file = record file { passed = min (file.passed + count) (2 ^ 64 - 1) }

-- of the bytes that were added these are left once so many are cut off, if no more are cut off than were added; of a
-- file to which none were, any number may be
abbrev pub left_of : ℕ → Option ℕ → Option (Option ℕ)
left_of off None = Some None
left_of off (Some added) = if nat_le off added then Some (Some (added - off)) else None

abbrev pub with_left : FileView → Option (Option ℕ) → Option FileView
with_left file None = None
with_left file (Some left) = Some (record file { added = left })

-- the file once it is cut from this size to this length, if it may be: a shorter one isn't filled up
abbrev pub cut_to : ℕ → ℕ → FileView → Option FileView
cut_to size len file = if nat_le len size then with_left file (left_of (size - len) file.added) else None

-- what is done to a file that is open
pub data Change : Type 0 where
  Appends : ℕ → Change
  Cuts : ℕ → ℕ → Change

-- the file after one change, and after all of them, if each may be made
abbrev pub after : Change → FileView → Option FileView
after (Appends count) file = Some (appended count file)
after (Cuts size len) file = cut_to size len file

abbrev pub after_all : List Change → FileView → Option FileView
after_all [] file = Some file
after_all (change ∷ more) file = option_and_then (after_all more) (after change file)

-- how many bytes the changes append, and how many they cut off
abbrev pub bytes_added : List Change → ℕ
bytes_added [] = 0
bytes_added (Appends count ∷ more) = count + bytes_added more
bytes_added (Cuts size len ∷ more) = bytes_added more

abbrev pub bytes_cut : List Change → ℕ
bytes_cut [] = 0
bytes_cut (Appends count ∷ more) = bytes_cut more
bytes_cut (Cuts size len ∷ more) = (size - len) + bytes_cut more

-- from a file that was appended to no more is cut off than was added, whatever is done in whatever order
abbrev pub NoMoreIsCut : Type 0
NoMoreIsCut = (changes : List Change) (file last : FileView) (added : ℕ)
    → file.added ≡ Some added → after_all changes file ≡ Some last → bytes_cut changes ≤ added + bytes_added changes
