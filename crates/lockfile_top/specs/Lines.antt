-- The lines that the program says.
use Rattle.std.specs.Prelude.{ℕ, List, ◌++◌, codes}

-- an old lock file was removed by force
abbrev pub forcing_line : List ℕ → List ℕ
forcing_line name = codes "lockfile: Forcing lock on \"" ++ name ++ codes "\"\n"

-- the program stopped at this name
abbrev pub sorry_line : List ℕ → List ℕ
sorry_line name = codes "lockfile: Sorry, giving up on \"" ++ name ++ codes "\"\n"
