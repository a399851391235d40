-- The folder that a mail's name belongs to: the files of a directory count as one.
use Rattle.std.specs.Prelude.{ℕ, ◌+◌, ◌-◌, ◌==◌, Bool, ◌&&◌, ◌||◌, true, false, List, [], ◌∷◌, ◌++◌, length, take, drop, Option, None, Some, nat_eq, if◌then◌else◌, codes}
use Rattle.std.specs.List.{starts_with, ends_with, list_all}
use Rattle.memchr.specs.Find.{is_byte, places, last_of}
use Rattle.pm_bytes.specs.Letter.{is_digit_byte, is_name_byte}

-- bytes of the names that procmail gives to files of a plain directory
abbrev pub is_plain_byte : ℕ → Bool
is_plain_byte byte = is_name_byte byte || byte == 45

-- bytes of the names that procmail gives to files of a maildir: `-`, and `.,+:%@`
abbrev pub is_maildir_byte : ℕ → Bool
is_maildir_byte byte =
    is_plain_byte byte || byte == 46 || byte == 44 || byte == 43 || byte == 58 || byte == 37 || byte == 64

-- one byte at least
abbrev pub is_some : List ℕ → Bool
is_some [] = false
is_some (byte ∷ rest) = true

-- a file in the subdirectory `new` of a maildir
abbrev pub is_maildir_file : List ℕ → List ℕ → Bool
is_maildir_file directory file = ends_with nat_eq directory (codes "/new") && is_some file && list_all is_maildir_byte file

-- a file whose name is `msg.` and more
abbrev pub is_plain_file : List ℕ → Bool
is_plain_file file = starts_with nat_eq file (codes "msg.") && is_some (drop 4 file) && list_all is_plain_byte (drop 4 file)

-- a file whose name is a number
abbrev pub is_numbered : List ℕ → Bool
is_numbered file = is_some file && list_all is_digit_byte file

-- the folder of a file of this directory: `directory/`, `maildir/`, `mh/.`
abbrev pub folder_in : List ℕ → List ℕ → List ℕ
folder_in directory file =
    if is_plain_file file then directory ++ codes "/"
    else if is_maildir_file directory file then take (length directory - 3) directory
    else if is_numbered file then directory ++ codes "/."
    else directory ++ codes "/" ++ file

-- the folder of a name, where this slash is the last one
abbrev pub folder_at : List ℕ → Option ℕ → List ℕ
folder_at name None = name
folder_at name (Some slash) = folder_in (take slash name) (drop (slash + 1) name)

-- a file `msg.` or of a maildir is told as its directory and a slash, and one of an MH folder with a dot after that
abbrev pub folder : List ℕ → List ℕ
folder name = folder_at name (last_of (places (is_byte 47) name))
