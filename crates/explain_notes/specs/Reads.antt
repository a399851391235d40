-- The rcfiles that a run read.
use Rattle.std.specs.Prelude.{ℕ, ◌+◌, Bool, ◌&&◌, nat_lt, bytes_eq, cond, List, [], ◌∷◌, ◌++◌, Option, Some, None}
use Rattle.pm_journal.specs.declared.acts.Act.{Act}
use Rattle.pm_journal.specs.declared.acts.Act.TheVariants.{ReadFile}
use Rattle.pm_journal.specs.declared.acts.Entry.{Entry}
use Rattle.pm_journal.specs.declared.acts.Reply.{Reply}
use Rattle.pm_journal.specs.declared.acts.Reply.TheVariants.{Content}
use Rattle.explain_notes.specs.RcLines.{Lines}
use Rattle.explain_notes.specs.Steps.{lines_of, recipe_at}
use Rattle.explain_notes.specs.declared.reads.Read.{Read}

-- a file was read
abbrev pub read_of : ℕ → Act → Reply → Option Read
read_of before (ReadFile name) (Content bytes) = Some (record { before = before; name = name; lines = lines_of bytes })
read_of before act reply = None

-- it, if there is one
abbrev pub listed : Option Read → List Read
listed None = []
listed (Some one) = one ∷ []

-- the files that these entries read, the first of which has so many before it
abbrev pub reads_from : ℕ → List Entry → List Read
reads_from before [] = []
reads_from before (entry ∷ entries) = listed (read_of before entry.act entry.reply) ++ reads_from (before + 1) entries

-- a file of this name, read before so many entries were there
abbrev pub comes_first : Read → List ℕ → ℕ → Bool
comes_first read name entries = nat_lt read.before entries && bytes_eq read.name name

-- the last of these files that does, or else this one
abbrev pub last_from : List Read → List ℕ → ℕ → Option (List (Option Lines)) → Option (List (Option Lines))
last_from [] name entries found = found
last_from (read ∷ reads) name entries found = last_from reads name entries (cond (comes_first read name entries) (Some read.lines) found)

-- the file of this name that was read last
abbrev pub last_read : List Read → List ℕ → ℕ → Option (List (Option Lines))
last_read reads name entries = last_from reads name entries None

-- the recipe at a place of a file that may not be there
abbrev pub recipe_of : ℕ → Option (List (Option Lines)) → Option Lines
recipe_of place None = None
recipe_of place (Some lines) = recipe_at place lines

-- the recipe at a place of the rcfile of this name
abbrev pub recipe_in : List Read → List ℕ → ℕ → ℕ → Option Lines
recipe_in reads name entries place = recipe_of place (last_read reads name entries)
