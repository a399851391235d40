-- What weighted conditions add to the score of a recipe (procmailsc(5)).
use Rattle.std.specs.Prelude.{◌≡◌, ℕ, zero, suc, ◌+◌, ◌^◌, Bool, true, false, ◌&&◌, ◌||◌, if◌then◌else◌, nat_eq, nat_lt, nat_le, min, max, Option, Some, None, ℤ, pos, ◌+ℤ◌, ◌*ℤ◌, neg_ℤ, int_div}
use Rattle.std.specs.Int.{int_min, int_max}
use Rattle.std.proofs.Common.{refl}

-- the sum of x to the power k, for each k below n
abbrev pub powers : ℕ → ℕ → ℕ
powers x zero = 0
powers x (suc n) = powers x n + x ^ n

-- a number brought into -2147483647 to 2147483647
abbrev pub bounded : ℤ → ℤ
bounded number = int_max (neg_ℤ (pos 2147483647)) (int_min number (pos 2147483647))

-- the total and, for n matches, the weight w for the first and for each further one x times as much as for the one before
abbrev pub add_score : ℤ → ℤ → ℕ → ℕ → ℤ
add_score total w x n = bounded (total +ℤ w *ℤ pos (powers x n))

-- the total and what a program's code adds: w for the code 0 and x for any other, or inverted as for so many matches as the code
abbrev pub add_code : ℤ → ℤ → ℕ → Bool → ℕ → ℤ
add_code total w x true code = add_score total w x code
add_code total w x false code = if nat_eq code 0 then bounded (total +ℤ w) else bounded (total +ℤ pos x)

-- a length of 0 counts as 1, and from the exponent 2 on one above 134217728 as that
abbrev pub counted_length : ℕ → ℕ → ℕ
counted_length x length = if nat_lt 1 x then max 1 (min length 134217728) else max 1 length

-- w times the length over the number to the power x, or the other way round, cut off towards 0
abbrev pub length_share : Bool → ℤ → ℕ → ℕ → ℕ → ℤ
length_share true w x length number = int_div (w *ℤ pos (length ^ x)) (pos (number ^ x))
length_share false w x length number = int_div (w *ℤ pos (number ^ x)) (pos (length ^ x))

-- a length and a number have a share with an exponent up to 3 and a number above 0, which from the exponent 2 on is at most 134217728
abbrev pub has_share : ℕ → ℕ → Bool
has_share x number = nat_le x 3 && nat_lt 0 number && (nat_le x 1 || nat_le number 134217728)

-- the total and the share that a length has by its number, where it has one
abbrev pub add_length : ℤ → ℤ → ℕ → ℕ → ℕ → Bool → Option ℤ
add_length total w x length number over =
    if has_share x number then Some (bounded (total +ℤ length_share over w x (counted_length x length) number)) else None

-- a score stops at its bound
near_the_bound : add_score (pos 2147483000) (pos 1) 1 10000 ≡ pos 2147483647
near_the_bound = refl

-- with the exponent 0 the first match alone counts
first_alone : add_score (pos 5) (neg_ℤ (pos 3)) 0 4 ≡ pos 2
first_alone = refl

-- with the exponent 1 each match counts as much
each_alike : add_score (pos 5) (neg_ℤ (pos 3)) 1 4 ≡ neg_ℤ (pos 7)
each_alike = refl

-- without a match nothing is added
no_match : add_score (pos 5) (pos 9) 1 0 ≡ pos 5
no_match = refl

-- with the exponent 2 each match counts twice as much as the one before
twice_as_much : add_score (pos 0) (pos 1) 2 30 ≡ pos 1073741823
twice_as_much = refl

reaches_the_bound : add_score (pos 0) (pos 1) 2 31 ≡ pos 2147483647
reaches_the_bound = refl

reaches_the_lower_bound : add_score (pos 0) (neg_ℤ (pos 1)) 2 40 ≡ neg_ℤ (pos 2147483647)
reaches_the_lower_bound = refl

nine_matches : add_score (pos 4) (pos 7) 0 9 ≡ pos 11
nine_matches = refl

-- three lines with the greatest exponent
greatest_exponent : add_score (pos 0) (pos 1) 2147483647 3 ≡ pos 2147483647
greatest_exponent = refl

-- nine bytes are fewer than 30
below_thirty : add_length (pos 0) (pos 100) 1 9 30 true ≡ Some (pos 30)
below_thirty = refl

thirty_below : add_length (pos 0) (neg_ℤ (pos 100)) 1 9 30 false ≡ Some (neg_ℤ (pos 333))
thirty_below = refl

no_exponent : add_length (pos 0) (pos 7) 0 9 30 true ≡ Some (pos 7)
no_exponent = refl

squares : add_length (pos 0) (pos 7) 2 9 5 true ≡ Some (pos 22)
squares = refl

cubes : add_length (pos 0) (neg_ℤ (pos 100)) 3 9 6 true ≡ Some (neg_ℤ (pos 337))
cubes = refl

no_number : add_length (pos 0) (pos 7) 0 9 0 true ≡ None
no_number = refl

fourth_powers : add_length (pos 0) (pos 7) 4 9 5 true ≡ None
fourth_powers = refl

greatest : add_length (pos 0) (pos 7) 2 268435456 134217728 true ≡ Some (pos 7)
greatest = refl

too_great : add_length (pos 0) (pos 7) 2 9 134217729 true ≡ None
too_great = refl

-- a length of 0 counts as 1
empty : add_length (pos 0) (pos 100) 1 0 3 false ≡ Some (pos 300)
empty = refl

-- a code other than 0 adds x, and not w
other_code : add_code (pos 5) (pos 9) 1 false 3 ≡ pos 6
other_code = refl

code_of_success : add_code (pos 5) (pos 9) 1 false 0 ≡ pos 14
code_of_success = refl

-- inverted the code counts matches
inverted_code : add_code (pos 5) (pos 9) 1 true 3 ≡ pos 32
inverted_code = refl
