-- Names that begin with `/` or `./`.
use Rattle.std.proofs.Common.{◌≡◌, ℕ, true, false, List, [], ◌∷◌, ◌++◌, refl, arith}
use Rattle.explain_mails.specs.Laws.{is_of_folder, is_full}

-- a full name isn't of the current folder
pub full_is_no_other : (name : List ℕ) → is_full name ≡ true → is_of_folder name ≡ false
full_is_no_other [] full = refl
full_is_no_other (byte ∷ name) full = grind arith

-- a full name stays one with more after it
pub full_with_more : (name more : List ℕ) → is_full name ≡ true → is_full (name ++ more) ≡ true
full_with_more [] more full = grind arith
full_with_more (byte ∷ name) more full = grind arith
