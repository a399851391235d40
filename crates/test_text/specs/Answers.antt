-- What programs answer in a test.
use Rattle.std.specs.Prelude.{ℕ, List, [], ◌∷◌, ◌++◌, Option, Some, None, codes, nat_le, if◌then◌else◌}
use Rattle.pm_bytes.specs.Number.{count_of}
use Rattle.test_text.specs.Cuts.{trimmed, cut_at, cut_at_last}
use Rattle.test_text.specs.declared.answer.Answer.{Answer}

-- the answer of a line with this code, which is at most 255
abbrev pub answer_with : List ℕ → Option ℕ → Option (List ℕ) → Option Answer
answer_with line None output = None
answer_with line (Some code) output = if nat_le code 255 then Some (record { line = line; code = code; output = output }) else None

-- a file may stand behind the code
abbrev pub answer_coded : List ℕ → List ℕ → Option (List ℕ × List ℕ) → Option Answer
answer_coded line end None = answer_with line (count_of end) None
answer_coded line end (Some cut) = answer_with line (count_of cut.0) (Some cut.1)

-- the last equals sign ends the line
abbrev pub answer_cut : Option (List ℕ × List ℕ) → Option Answer
answer_cut None = None
answer_cut (Some cut) = answer_coded cut.0 cut.1 (cut_at (codes ":") cut.1)

abbrev pub answer_of : List ℕ → Option Answer
answer_of text = answer_cut (cut_at_last (codes "=") text)

-- an answer before others
abbrev pub with_answer : Option Answer → Option (List Answer) → Option (List Answer)
with_answer None later = None
with_answer (Some one) None = None
with_answer (Some one) (Some later) = Some (one ∷ later)

-- the answers of these texts, if each is one
abbrev pub answers_of : List (List ℕ) → Option (List Answer)
answers_of [] = Some []
answers_of (piece ∷ pieces) = with_answer (answer_of (trimmed piece)) (answers_of pieces)
