-- Names of destinations in a file of tests, and as a run has them.
use Rattle.std.specs.Prelude.{ℕ, ◌-◌, Bool, ◌||◌, List, [], ◌++◌, length, take, drop, codes, nat_eq, bytes_eq, if◌then◌else◌}
use Rattle.std.specs.List.{starts_with, ends_with}

-- without this front, if it has it
abbrev pub behind : List ℕ → List ℕ → List ℕ
behind front text = if starts_with nat_eq text front then drop (length front) text else text

-- without an ending that makes it a directory
abbrev pub without_ending : List ℕ → List ℕ
without_ending text =
    if ends_with nat_eq text (codes "/.") then take (length text - 2) text
    else if ends_with nat_eq text (codes "/") then take (length text - 1) text
    else text

-- the home directory with a slash
abbrev pub home_front : List ℕ → List ℕ
home_front home = if ends_with nat_eq home (codes "/") then home else home ++ codes "/"

-- a name as seen from the home directory
abbrev pub seen_from : List ℕ → List ℕ → List ℕ
seen_from home name = if starts_with nat_eq name (codes "/") then name else home_front home ++ name

-- a program, addresses or standard output
abbrev pub is_word : List ℕ → Bool
is_word text = starts_with nat_eq text (codes "|") || (starts_with nat_eq text (codes "forward ") || bytes_eq text (codes "standard output"))

-- the destination that a text names, with this home directory and this default mailbox
abbrev pub name_of : List ℕ → List ℕ → List ℕ → List ℕ
name_of text home default =
    if bytes_eq text (codes "default") then default
    else if is_word text then text
    else seen_from home (behind (codes "~/") (without_ending text))

-- a name as seen from the home directory, where it is in there
abbrev pub shown_name : List ℕ → List ℕ → List ℕ
shown_name name home = behind (home_front home) name
