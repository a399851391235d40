-- What programs do that aren't started.
use Rattle.std.specs.Prelude.{ℕ, Bool, false, cond, codes, List, [], ◌∷◌, ◌++◌, bytes_eq, Option, Some, None}
use Rattle.std.specs.List.{find}
use Rattle.pm_host.specs.declared.command.Command.{Command}
use Rattle.pm_overlay.specs.declared.programs.Given.{Given}

-- each text with a space before it
abbrev pub spaced : List (List ℕ) → List ℕ
spaced [] = []
spaced (text ∷ texts) = 32 ∷ (text ++ spaced texts)

-- the line that a shell runs, or the program with its arguments
abbrev pub line_from : List ℕ → List (List ℕ) → List ℕ
line_from program (flags ∷ (text ∷ [])) = cond (bytes_eq flags (codes "-c")) text (program ++ spaced (flags ∷ (text ∷ [])))
line_from program [] = program ++ spaced []
line_from program (one ∷ []) = program ++ spaced (one ∷ [])
line_from program (one ∷ (two ∷ (three ∷ more))) = program ++ spaced (one ∷ (two ∷ (three ∷ more)))

-- the line of a program that is run
abbrev pub line_of : Command → List ℕ
line_of command = line_from command.program command.args

-- the first answer that is given for a line
abbrev pub answer_to : List Given → List ℕ → Option Given
answer_to given line = find (λ one. bytes_eq one.line line) given

-- the code of a program: the given one, or 0
abbrev pub code_of : Option Given → ℕ
code_of None = 0
code_of (Some one) = one.code

-- the output that is given
abbrev pub output_of : Option Given → Option (List ℕ)
output_of None = None
output_of (Some one) = one.output

-- its bytes, if there are some
abbrev pub bytes_or_none : Option (List ℕ) → List ℕ
bytes_or_none None = []
bytes_or_none (Some bytes) = bytes

-- it gives back what it gets: its output is wanted, and none is given
abbrev pub echoes_where : Option (List ℕ) → Bool → Bool
echoes_where None want = want
echoes_where (Some bytes) want = false
