-- What the definitions promise.
use Rattle.std.specs.Prelude.{◌≡◌, ℕ, Bool, true, List, codes, nat_eq}
use Rattle.std.specs.List.{starts_with}
use Rattle.pm_meaning.specs.Running.{named_rcfile}
use Rattle.explain_mails.specs.Words.{word_beside}

-- a run with an rcfile of this name begins in the current folder
abbrev pub is_of_folder : List ℕ → Bool
is_of_folder name = starts_with nat_eq name (codes "./")

-- a name from the root on
abbrev pub is_full : List ℕ → Bool
is_full name = starts_with nat_eq name (codes "/")

-- Both runs begin in the same folder, whatever options are given: where the old rcfile is named as one of the current folder, the new
-- one is too, and else neither is. The home folder and the current one have full names.
abbrev pub BeginAlike : Type 0
BeginAlike = (filter : Bool) (home folder old new : List ℕ) → is_full home ≡ true → is_full folder ≡ true
    → is_of_folder (named_rcfile filter home (word_beside old folder new)) ≡ is_of_folder (named_rcfile filter home old)
