-- The names that are tried in a folder.
use Rattle.std.specs.Prelude.{◌≡◌, ℕ, ◌+◌, ◌==◌, Bool, false, cond, List, [], ◌∷◌, ◌++◌, length, map, codes, Option, Some, None, nat_eq, nat_le, max, decimal}
use Rattle.std.specs.Fmt.{signed_decimal}
use Rattle.pm_bytes.specs.Number.{count_of}
use Rattle.pm_host.specs.World.{inside}
use Rattle.pm_journal.specs.declared.placing.Stamp.{Stamp}
use Rattle.pm_journal.specs.declared.placing.Candidate.{Candidate}

-- these are the candidates with the numbers from k on
abbrev pub AreFrom : (ℕ → Candidate) → ℕ → List Candidate → Type 0
AreFrom make k [] = Unit {0}
AreFrom make k (c ∷ cs) = (c ≡ make k) × AreFrom make (k + 1) cs

-- the 100 candidates, in order
pub record Numbered (make : ℕ → Candidate) (all : List Candidate) : Type 0 where
  pub count : length all ≡ 100
  pub are : AreFrom make 0 all

-- the moment, the process and the serial number
abbrev pub stem : Stamp → List ℕ
stem s = signed_decimal s.moment ++ codes "." ++ decimal s.pid ++ codes "_" ++ decimal s.serial

-- the first candidate has no mark
abbrev pub mark : ℕ → List ℕ
mark k = cond (nat_eq k 0) [] (codes "-" ++ decimal k)

-- in a plain folder: the prefix, the stem and the mark
abbrev pub plain_candidate : List ℕ → List ℕ → Stamp → ℕ → Candidate
plain_candidate folder prefix stamp k = record { at = inside folder (prefix ++ stem stamp ++ mark k); to = None }

-- `_` in place of a slash
abbrev pub unslashed : ℕ → ℕ
unslashed byte = cond (byte == 47) 95 byte

-- the last part of a name in a maildir
abbrev pub maildir_part : Stamp → ℕ → List ℕ
maildir_part stamp k = stem stamp ++ mark k ++ codes "." ++ map unslashed stamp.host_name

-- in a maildir a file is made in `tmp` and goes to `new`
abbrev pub maildir_candidate : List ℕ → Stamp → ℕ → Candidate
maildir_candidate folder stamp k = record {
  at = inside (inside folder (codes "tmp")) (maildir_part stamp k);
  to = Some (inside (inside folder (codes "new")) (maildir_part stamp k));
}

-- the folder of a maildir and the three in it
abbrev pub maildir_folders : List ℕ → List (List ℕ)
maildir_folders folder = folder ∷ inside folder (codes "tmp") ∷ inside folder (codes "new") ∷ inside folder (codes "cur") ∷ []

-- in an MH folder a message is named by its number
abbrev pub mh_candidate : List ℕ → ℕ → ℕ → Candidate
mh_candidate folder first k = record { at = inside folder (decimal (first + k)); to = None }

-- the first byte is `0`
abbrev pub starts_with_zero : List ℕ → Bool
starts_with_zero [] = false
starts_with_zero (b ∷ bs) = nat_eq b 48

-- the number of a message's name: 1 to 9 digits without a leading 0
abbrev pub part_number : List ℕ → Option ℕ
part_number part = cond (nat_le (length part) 9) (cond (starts_with_zero part) None (count_of part)) None

-- the greater of a number that may be missing and another one
abbrev pub greater_of : Option ℕ → ℕ → ℕ
greater_of (Some n) greatest = max n greatest
greater_of None greatest = greatest

-- the greatest number of a message, or 0
abbrev pub greatest_number : List (List ℕ) → ℕ
greatest_number [] = 0
greatest_number (part ∷ parts) = greater_of (part_number part) (greatest_number parts)

-- one more than the greatest number of a message there
abbrev pub first_number : List (List ℕ) → ℕ
first_number parts = greatest_number parts + 1
