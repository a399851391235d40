-- The messages of a trial.
use Rattle.std.specs.Prelude.{ℕ, ◌%◌, List, ◌++◌, codes, decimal}
use Rattle.std.specs.List.{repeat}

-- Message k: to `l0@x` to `l4@x` in turn, with k as its subject, and a body of none to three lines in turn.
abbrev pub message_of : ℕ → List ℕ
message_of k =
    codes "From t Thu Jan  1 00:00:00 1970\nTo: l" ++ decimal (k % 5)
    ++ codes "@x\nSubject: " ++ decimal k ++ codes "\n\n"
    ++ repeat (k % 4) (codes "line\n")
