-- The steps of a run as lines, and where the mail went.
use Rattle.std.specs.Prelude.{ℕ, ◌==◌, ◌&&◌, Bool, true, false, cond, codes, decimal, List, [], ◌∷◌, ◌++◌, Option, Some, None}
use Rattle.pm_journal.specs.LogText.{quoted}
use Rattle.pm_journal.specs.declared.acts.Entry.{Entry}
use Rattle.explain_text.specs.Steps.{steps_of}
use Rattle.explain_text.specs.declared.step.Kind.{Kind}
use Rattle.explain_text.specs.declared.step.Kind.TheVariants.{Read, Append, File, Lock, Unlock, Run, Filter, Log, Say, Write}
use Rattle.explain_text.specs.declared.step.Step.{Step}

-- what comes before the name
abbrev pub before : Kind → ℕ → List ℕ
before Read bytes = codes "read "
before Append bytes = codes "append " ++ decimal bytes ++ codes " bytes to "
before File bytes = codes "file " ++ decimal bytes ++ codes " bytes as "
before Lock bytes = codes "lock "
before Unlock bytes = codes "unlock "
before Run bytes = codes "run "
before Filter bytes = codes "run "
before Log bytes = codes "log to "
before Say bytes = codes "say "
before Write bytes = codes "write " ++ decimal bytes ++ codes " bytes to "

-- what comes after the name of a program
abbrev pub after_program : ℕ → ℕ → Bool → List ℕ
after_program bytes code wants = codes " < " ++ decimal bytes ++ codes " bytes: " ++ decimal code ++ cond wants (codes ", output taken [not started]") (codes " [not started]")

-- what comes after the name of a step that was done
abbrev pub after : Step → Kind → List ℕ
after s Read = codes ": " ++ decimal s.bytes ++ codes " bytes"
after s Run = after_program s.bytes s.code false
after s Filter = after_program s.bytes s.code true
after s Log = codes ": " ++ quoted s.text
after s Append = []
after s File = []
after s Lock = []
after s Unlock = []
after s Say = []
after s Write = []

-- the line of a step
abbrev pub step_line : Step → List ℕ
step_line s = codes "  " ++ before s.kind s.bytes ++ quoted s.name ++ cond s.done (after s s.kind) (codes ": not done") ++ codes "\n"

-- the lines of steps
abbrev pub step_lines : List Step → List ℕ
step_lines [] = []
step_lines (s ∷ ss) = step_line s ++ step_lines ss

-- a step of this kind can deliver a mail
abbrev pub can_deliver : Kind → Bool
can_deliver Append = true
can_deliver File = true
can_deliver Run = true
can_deliver Write = true
can_deliver Read = false
can_deliver Lock = false
can_deliver Unlock = false
can_deliver Filter = false
can_deliver Log = false
can_deliver Say = false

-- the step delivered: it was done, and a program ended with 0
abbrev pub delivers : Step → Bool
delivers s = can_deliver s.kind && (s.done && (s.code == 0))

-- the name of the last of these steps that delivered, or else this
abbrev pub last_of : List Step → Option (List ℕ) → Option (List ℕ)
last_of [] found = found
last_of (s ∷ ss) found = last_of ss (cond (delivers s) (Some s.name) found)

-- what the mail was delivered to last
abbrev pub delivered_to : List Step → Option (List ℕ)
delivered_to steps = last_of steps None

-- where the mail went
abbrev pub where_to : Option (List ℕ) → List ℕ
where_to None = codes "not delivered"
where_to (Some name) = codes "delivered to " ++ quoted name

-- the exit status
abbrev pub ending_line : ℕ → List ℕ
ending_line status = codes ", status " ++ decimal status ++ codes ". Nothing was changed.\n"

-- the last line
abbrev pub result_line : List Step → ℕ → List ℕ
result_line steps status = where_to (delivered_to steps) ++ ending_line status

-- what a run did
abbrev pub explained : List Entry → ℕ → List ℕ
explained entries status = step_lines (steps_of entries) ++ result_line (steps_of entries) status
