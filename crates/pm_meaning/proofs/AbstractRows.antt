-- Worked rows: abstracts, and where lines are logged.
use Rattle.std.proofs.Common.{◌≡◌, List, ℕ, ◌++◌, refl}
use Rattle.std.specs.Prelude.{codes, decimal}
use Rattle.pm_message.specs.Split.{split_of}
use Rattle.pm_meaning.specs.Abstracts.{abstract_of}
use Rattle.pm_meaning.specs.Minds.{Mind}

-- a process with this mail that delivered so many bytes here
abbrev delivered : List ℕ → List ℕ → ℕ → Mind → Mind
delivered mail folder size p = record p { message = split_of mail; stored = record { folder = folder; size = size } }

whole_row : (p : Mind) → abstract_of (delivered (codes "From a@b Thu Jan  1 00:00:00 1970\nTo: joe@mx\nSubject: hi\n\nhello\n") (codes "/home/joe/Mail/mbox") 77 p)
    ≡ codes "From a@b Thu Jan  1 00:00:00 1970\n Subject: hi\n  Folder: /home/joe/Mail/mbox " ++ (decimal 77 ++ codes "\n")
whole_row p = refl

-- without a line From and a subject the folder alone is told
plain_row : (p : Mind) → abstract_of (delivered (codes "A: b\n\nhi\n") (codes "mbox") 10 p) ≡ codes "  Folder: mbox " ++ (decimal 10 ++ codes "\n")
plain_row p = refl

-- the first subject counts, in letters of either case, as far as its first line goes
subject_row : (p : Mind) → abstract_of (delivered (codes "A: b\nSUBJECT: \t one\n two\nSubject: three\n\n") (codes "a\nb") 3 p) ≡ codes " Subject: one\n  Folder: a b " ++ (decimal 3 ++ codes "\n")
subject_row p = refl

-- what stands after an empty line is no subject
body_row : (p : Mind) → abstract_of (delivered (codes "A: b\n\nSubject: no\n") (codes "m") 0 p) ≡ codes "  Folder: m " ++ (decimal 0 ++ codes "\n")
body_row p = refl
