-- The names of the tries in a folder, one after the other.
use Rattle.std.specs.Prelude.{ℕ, zero, suc, ◌+◌, ◌≤◌, ◌^◌, List, [], ◌∷◌, ◌++◌, decimal, Option, option_map}
use Rattle.pm_journal.specs.Naming.{mark}
use Rattle.pm_journal.specs.declared.placing.Candidate.{Candidate}
use Rattle.pm_folders.specs.declared.names.Mark.{Mark}
use Rattle.pm_folders.specs.declared.names.Mark.TheVariants.{Again, Number}

-- a name that is written anew for each try: what stands before its mark and after it, and what was written last
pub record Written : Type 0 where
  pub front : List ℕ
  pub back : List ℕ
  pub text : List ℕ

-- the name at which a file is made, the one to which it is moved, and what tells the tries apart
pub record Trying : Type 0 where
  pub at : Written
  pub to : Option Written
  pub mark : Mark

-- what tells this try apart
abbrev pub marked : Mark → ℕ → List ℕ
marked Again k = mark k
marked (Number first) k = decimal (first + k)

-- the numbers of an MH folder's names are small
abbrev pub IsSmall : Mark → Type 0
IsSmall Again = Unit {0}
IsSmall (Number first) = first ≤ 10 ^ 18

-- the name with this text as its mark
abbrev pub with_mark : List ℕ → Written → List ℕ
with_mark text name = name.front ++ text ++ name.back

-- the names with this text as their mark
abbrev pub names_with : List ℕ → Trying → Candidate
names_with text names = record { at = with_mark text names.at; to = option_map (with_mark text) names.to }

-- the names of this try
abbrev pub nth_try : Trying → ℕ → Candidate
nth_try names k = names_with (marked names.mark k) names

-- the names that were written last
abbrev pub tried_last : Trying → Candidate
tried_last names = record { at = names.at.text; to = option_map (λ n. n.text) names.to }

-- so many candidates from the number k on
abbrev pub candidates_from : (ℕ → Candidate) → ℕ → ℕ → List Candidate
candidates_from make k zero = []
candidates_from make k (suc n) = make k ∷ candidates_from make (k + 1) n
