-- Short texts and what is read from them, and each class of bytes as all bytes that are in it.
use Rattle.std.specs.Prelude.{◌≡◌, ℕ, Bool, true, false, not, List, [], ◌∷◌, Some, None, pos, neg_ℤ, nat_eq, codes, map, replicate}
use Rattle.std.specs.List.{filter, range_with_len}
use Rattle.pm_bytes.specs.Letter.{is_blank_byte, is_space_byte, is_digit_byte, is_name_start, is_name_byte, lower_case}
use Rattle.pm_bytes.specs.Name.{is_usable}
use Rattle.pm_bytes.specs.Number.{count_of, number_of}
use Rattle.pm_bytes.specs.Path.{full_name}

-- the bytes that pass a test
abbrev pub those : (ℕ → Bool) → List ℕ
those test = filter test (range_with_len 0 256)

-- the greatest number that is read
abbrev pub nines : List ℕ
nines = replicate 18 57

-- what holds of them
pub record Examples : Type 0 where
  -- the classes, each from its least byte to its greatest
  pub blanks : those is_blank_byte ≡ codes "\t "
  pub spaces : those is_space_byte ≡ codes "\t\n "
  pub digits : those is_digit_byte ≡ codes "0123456789"
  pub name_starts : those is_name_start ≡ codes "ABCDEFGHIJKLMNOPQRSTUVWXYZ_abcdefghijklmnopqrstuvwxyz"
  pub name_bytes : those is_name_byte ≡ codes "0123456789ABCDEFGHIJKLMNOPQRSTUVWXYZ_abcdefghijklmnopqrstuvwxyz"
  -- capitals are made small, and no other byte
  pub capitals : map lower_case (codes "ABCDEFGHIJKLMNOPQRSTUVWXYZ") ≡ codes "abcdefghijklmnopqrstuvwxyz"
  pub around_capitals : map lower_case (64 ∷ 91 ∷ 96 ∷ 97 ∷ 122 ∷ 123 ∷ 192 ∷ []) ≡ 64 ∷ 91 ∷ 96 ∷ 97 ∷ 122 ∷ 123 ∷ 192 ∷ []
  pub made_small : those (λ b. not (nat_eq (lower_case b) b)) ≡ codes "ABCDEFGHIJKLMNOPQRSTUVWXYZ"
  -- 1 to 18 digits write a number in tens; nothing else does
  pub zero : count_of (codes "0") ≡ Some 0
  pub tens : count_of (codes "1024") ≡ Some 1024
  pub zeros_in_front : count_of (codes "0010") ≡ Some 10
  pub most_digits : count_of nines ≡ Some 999999999999999999
  pub too_many_digits : count_of (48 ∷ nines) ≡ None
  pub no_digit : count_of [] ≡ None
  pub letter : count_of (codes "10k") ≡ None
  pub blank : count_of (codes " 10") ≡ None
  pub sign : count_of (codes "+10") ≡ None
  -- one sign may stand in front
  pub unsigned : number_of (codes "010") ≡ Some (pos 10)
  pub plus : number_of (codes "+10") ≡ Some (pos 10)
  pub minus : number_of (codes "-10") ≡ Some (neg_ℤ (pos 10))
  pub minus_zero : number_of (codes "-0") ≡ Some (pos 0)
  pub minus_most_digits : number_of (45 ∷ nines) ≡ Some (neg_ℤ (pos 999999999999999999))
  pub two_signs : number_of (codes "+-1") ≡ None
  pub sign_alone : number_of (codes "-") ≡ None
  pub nothing : number_of [] ≡ None
  -- a name is UTF-8 without a byte 0; it may be empty, and hold blanks and control bytes
  pub name : is_usable (codes "a b/c\n") ≡ true
  pub umlaut : is_usable (195 ∷ 164 ∷ []) ≡ true
  pub no_byte : is_usable [] ≡ true
  pub half_umlaut : is_usable (195 ∷ []) ≡ false
  pub byte_255 : is_usable (97 ∷ 255 ∷ []) ≡ false
  pub byte_0 : is_usable (97 ∷ 0 ∷ []) ≡ false
  pub byte_1 : is_usable (1 ∷ []) ≡ true
  pub all_of_ascii : is_usable (range_with_len 1 127) ≡ true
  -- a name is seen from a folder, unless it begins with `/` or the folder is `.`
  pub in_folder : full_name (codes "Mail") (codes "mbox") ≡ codes "Mail/mbox"
  pub after_slash : full_name (codes "/h/") (codes "mbox") ≡ codes "/h/mbox"
  pub from_root : full_name (codes "Mail") (codes "/mbox") ≡ codes "/mbox"
  pub working_folder : full_name (codes ".") (codes "mbox") ≡ codes "mbox"
  pub dot_and_slash : full_name (codes "./") (codes "mbox") ≡ codes "./mbox"
  pub folder_above : full_name (codes "..") (codes "./mbox") ≡ codes ".././mbox"
  pub empty_name : full_name (codes "Mail") [] ≡ codes "Mail/"
