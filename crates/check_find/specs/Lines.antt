-- A finding as a line.
use Rattle.std.specs.Prelude.{ℕ, List, ◌++◌, ◌||◌, map, codes, decimal, nat_lt, nat_eq, if◌then◌else◌}
use Rattle.check_find.specs.declared.codes.Severity.{Severity}
use Rattle.check_find.specs.declared.codes.Severity.TheVariants.{Error, Warning, Note}
use Rattle.check_find.specs.declared.line.Line.{Line}

-- the word of a severity
abbrev pub severity_word : Severity → List ℕ
severity_word Error = codes "error"
severity_word Warning = codes "warning"
severity_word Note = codes "note"

-- a control character is shown as a blank
abbrev pub shown_byte : ℕ → ℕ
shown_byte byte = if nat_lt byte 32 || nat_eq byte 127 then 32 else byte

-- FILE:LINE:COLUMN: SEVERITY: TEXT [CODE]
abbrev pub line_of : Line → List ℕ
line_of line =
    map shown_byte line.file.now ++ codes ":" ++ decimal line.line ++ codes ":" ++ decimal line.column
    ++ codes ": " ++ severity_word line.severity ++ codes ": " ++ map shown_byte line.text.now
    ++ codes " [" ++ line.code.now ++ codes "]\n"
