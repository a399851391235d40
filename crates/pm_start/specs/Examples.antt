-- Entries of an environment, the variables that they are, and the login name.
use Rattle.std.specs.Prelude.{ℕ, ◌≡◌, false, List, [], ◌∷◌, ◌++◌, codes, Some, None}
use Rattle.std.specs.List.{filter, range_with_len}
use Rattle.pm_bytes.specs.declared.environment.Pair.{Pair}
use Rattle.pm_start.specs.Login.{is_login, login_name, login_of}
use Rattle.pm_start.specs.Variables.{pair_of, pairs_of}

abbrev pub variable : List ℕ → List ℕ → Pair
variable name value = record { name = name; value = value }

-- what holds of them
pub record Examples : Type 0 where
  -- the value begins after the first equals sign
  pub signs : pair_of (codes "A=b=c") ≡ Some (variable (codes "A") (codes "b=c"))
  pub empty_value : pair_of (codes "A=") ≡ Some (variable (codes "A") [])
  pub no_name : pair_of (codes "=b") ≡ Some (variable [] (codes "b"))
  -- left out are an entry without an equals sign, and one whose name or value isn't text
  pub no_sign : pair_of (codes "A") ≡ None
  pub no_text : pair_of (codes "A=" ++ 255 ∷ []) ≡ None
  pub name_no_text : pair_of (255 ∷ codes "=b") ≡ None
  -- all are read, in order, also two of one name
  pub order : pairs_of (codes "B=2" ∷ codes "A" ∷ codes "A=1" ∷ codes "B=3" ∷ [])
      ≡ variable (codes "B") (codes "2") ∷ variable (codes "A") (codes "1") ∷ variable (codes "B") (codes "3") ∷ []
  -- a login name has no byte below 33; if there is none it is `nobody`, and of several the first counts
  pub logins : filter (λ b. is_login (b ∷ [])) (range_with_len 0 256) ≡ range_with_len 33 223
  pub blank_in_login : is_login (codes "a b") ≡ false
  pub empty_login : login_of (Some []) ≡ codes "nobody"
  pub unset_login : login_of None ≡ codes "nobody"
  pub first_login : login_name (record {
    vars = variable (codes "LOGNAME") (codes "joe") ∷ variable (codes "LOGNAME") (codes "ann") ∷ [];
    pid = 1;
    host_name = codes "h";
  }) ≡ codes "joe"
