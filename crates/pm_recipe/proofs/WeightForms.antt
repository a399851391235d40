-- The weight that the code reads at the front of a line is the one that stands there.
use Rattle.std.proofs.Common.{◌≡◌, ◌+◌, ◌≤◌, ℕ, suc, Bool, true, false, not, ◌&&◌, ◌||◌, cond, nat_eq, nat_lt, List, [], ◌∷◌, ◌++◌, Option, Some, None, refl, ap, sym, ◌∙◌, length, take, drop, arith, subst}
use Rattle.std.specs.List.{list_any}
use Rattle.std.proofs.lemmas.List.{take-append-drop, take_at, drop_at}
use Rattle.std.proofs.lemmas.Bool.{cond-true, cond-false}
use Rattle.std.proofs.lemmas.Bool.Decides.{nat_tests}
use Rattle.pm_bytes.specs.Letter.{is_digit_byte}
use Rattle.pm_bytes.specs.Alphabet.{DOT, PLUS, MINUS, CARET}
use Rattle.pm_recipe.specs.Bytes.{begins_with}
use Rattle.pm_recipe.specs.Places.{far, text_after}
use Rattle.pm_recipe.specs.declared.runs.Run.TheVariants as Run
use Rattle.pm_recipe.specs.declared.leads.InNumeral.TheVariants as InNumeral
use Rattle.pm_recipe.specs.Runs.{run_places}
use Rattle.pm_recipe.specs.Leads.{numeral_places}
use Rattle.pm_recipe.specs.declared.tree.Weight.{Weight}
use Rattle.pm_recipe.specs.declared.tree.Weight.TheVariants as weight
use Rattle.pm_recipe.specs.Weights.{digits_value, number_within, digits_of, weight_of, numeral, has_digit, exponent, ends_word, has_weight, exponent_value, weight_at, after_weight}
use Rattle.pm_recipe.specs.Conditions.{IsSign, are_digits, IsNumeral, IsWeight, IsNumber, most_power, IsWorth, IsWeighed}
use Rattle.pm_recipe.specs.Conditions.IsSign.{Absent, Plus, Minus}
use Rattle.pm_recipe.specs.Conditions.IsWorth.{Adds, Takes, Bad}
use Rattle.pm_recipe.specs.Conditions.IsWeighed.{Bare, Weighted}
use Rattle.pm_recipe.proofs.Forms.{equal, no, and-left, and-right, begins-cons, blanks-run}
use Rattle.pm_recipe.proofs.WordRuns.{true-false}
use Rattle.pm_recipe.proofs.Taking.{blanks-far}

-- a byte of a numeral after its sign
abbrev is_figure : ℕ → Bool
is_figure byte = is_digit_byte byte || nat_eq byte DOT

-- a numeral ends before these bytes
abbrev pub ends_figures : List ℕ → Bool
ends_figures [] = true
ends_figures (byte ∷ bytes) = not (is_figure byte)

figures-far : (digits rest : List ℕ) → are_digits digits ≡ true → ends_figures rest ≡ true → far numeral_places InNumeral.Digits (digits ++ rest) ≡ length digits
figures-far [] [] h e = refl
figures-far [] (byte ∷ bytes) h e = ap (λ b. cond b 0 (far numeral_places InNumeral.Digits bytes + 1)) e
figures-far (byte ∷ digits) rest h e =
    ap (λ b. cond (not b) 0 (far numeral_places InNumeral.Digits (digits ++ rest) + 1)) (and-left (is_figure byte) (are_digits digits) h)
    ∙ omega (arith, figures-far digits rest (and-right (is_figure byte) (are_digits digits) h) e)

signs : (a b c d : Bool) → (a || b) ≡ true → (a || b || c || d) ≡ true
signs true b c d h = refl
signs false true c d h = refl
signs false false c d h = no h

figures-first : (digits rest : List ℕ) → are_digits digits ≡ true → has_digit digits ≡ true → ends_figures rest ≡ true → far numeral_places InNumeral.Sign (digits ++ rest) ≡ length digits
figures-first [] rest h s e = no s
figures-first (byte ∷ digits) rest h s e =
    ap (λ b. cond (not b) 0 (far numeral_places InNumeral.Digits (digits ++ rest) + 1))
    (signs (is_digit_byte byte) (nat_eq byte DOT) (nat_eq byte PLUS) (nat_eq byte MINUS) (and-left (is_figure byte) (are_digits digits) h))
    ∙ omega (arith, figures-far digits rest (and-right (is_figure byte) (are_digits digits) h) e)

numeral-far : (text : List ℕ) (minus : Bool) (digits rest : List ℕ) → IsNumeral text minus digits → ends_figures rest ≡ true → far numeral_places InNumeral.Sign (text ++ rest) ≡ length text
numeral-far text minus digits rest n e = by n.sign n.signed n.text_is
  where
    by : (sign : List ℕ) → IsSign sign minus → text ≡ sign ++ digits → far numeral_places InNumeral.Sign (text ++ rest) ≡ length text
    by sign (Absent none m) is =
        let text_is : text ≡ digits = is ∙ ap (λ s. s ++ digits) none in
        subst (λ t. far numeral_places InNumeral.Sign (t ++ rest) ≡ length t) (sym text_is) (figures-first digits rest n.are n.some e)
    by sign (Plus plus m) is =
        let text_is : text ≡ PLUS ∷ digits = is ∙ ap (λ s. s ++ digits) plus in
        subst (λ t. far numeral_places InNumeral.Sign (t ++ rest) ≡ length t) (sym text_is) (omega (arith, figures-far digits rest n.are e))
    by sign (Minus minus_is m) is =
        let text_is : text ≡ MINUS ∷ digits = is ∙ ap (λ s. s ++ digits) minus_is in
        subst (λ t. far numeral_places InNumeral.Sign (t ++ rest) ≡ length t) (sym text_is) (omega (arith, figures-far digits rest n.are e))

-- the sign and the digits of a numeral are what the code takes for them
figure-no-sign : (byte : ℕ) → is_figure byte ≡ true → (nat_eq byte PLUS || nat_eq byte MINUS) ≡ false
figure-no-sign byte h = grind (arith, nat_tests)

or-right : (a b : Bool) → (a || b) ≡ false → b ≡ false
or-right true b h = true-false h
or-right false b h = h

record IsSplit (text : List ℕ) (rest : List ℕ) (minus : Bool) (digits : List ℕ) : Type 0 where
  digits_are : digits_of text ≡ digits
  minus_is : begins_with MINUS (text ++ rest) ≡ minus

split-figures : (digits rest : List ℕ) → are_digits digits ≡ true → has_digit digits ≡ true → IsSplit digits rest false digits
split-figures [] rest h s = no s
split-figures (byte ∷ digits) rest h s =
    let first = figure-no-sign byte (and-left (is_figure byte) (are_digits digits) h) in
    record {
      digits_are = cond-false (nat_eq byte PLUS || nat_eq byte MINUS) digits (byte ∷ digits) first;
      minus_is = or-right (nat_eq byte PLUS) (nat_eq byte MINUS) first;
    }

split : (text : List ℕ) (minus : Bool) (digits rest : List ℕ) → IsNumeral text minus digits → IsSplit text rest minus digits
split text minus digits rest n = by n.sign n.signed n.text_is
  where
    by : (sign : List ℕ) → IsSign sign minus → text ≡ sign ++ digits → IsSplit text rest minus digits
    by sign (Absent none m) is =
        subst (λ t. IsSplit t rest minus digits) (sym (is ∙ ap (λ s. s ++ digits) none))
        (subst (λ b. IsSplit digits rest b digits) (sym m) (split-figures digits rest n.are n.some))
    by sign (Plus plus m) is =
        subst (λ t. IsSplit t rest minus digits) (sym (is ∙ ap (λ s. s ++ digits) plus)) (record { digits_are = refl; minus_is = sym m })
    by sign (Minus minus_is m) is =
        subst (λ t. IsSplit t rest minus digits) (sym (is ∙ ap (λ s. s ++ digits) minus_is)) (record { digits_are = refl; minus_is = sym m })

-- a weight is read as it stands
record IsReadWeight (text : List ℕ) (minus : Bool) (digits : List ℕ) (less : Bool) (power : List ℕ) (rest : List ℕ) : Type 0 where
  has : has_weight text ≡ true
  minus_is : begins_with MINUS text ≡ minus
  digits_are : digits_of (numeral text) ≡ digits
  less_is : begins_with MINUS (numeral (exponent text)) ≡ less
  power_is : digits_of (numeral (exponent text)) ≡ power
  rest_is : text_after numeral_places InNumeral.Sign (exponent text) ≡ rest

numeral-digit : (text : List ℕ) (minus : Bool) (digits : List ℕ) → IsNumeral text minus digits → has_digit text ≡ true
numeral-digit text minus digits n = by n.sign n.signed n.text_is
  where
    by : (sign : List ℕ) → IsSign sign minus → text ≡ sign ++ digits → has_digit text ≡ true
    by sign (Absent none m) is = ap has_digit (is ∙ ap (λ s. s ++ digits) none) ∙ n.some
    by sign (Plus plus m) is = ap has_digit (is ∙ ap (λ s. s ++ digits) plus) ∙ n.some
    by sign (Minus minus_is m) is = ap has_digit (is ∙ ap (λ s. s ++ digits) minus_is) ∙ n.some

ends-figures : (rest : List ℕ) → ends_word rest ≡ true → ends_figures rest ≡ true
ends-figures [] h = refl
ends-figures (byte ∷ bytes) h = grind (arith, nat_tests)

all-four : (a b c d : Bool) → a ≡ true → b ≡ true → c ≡ true → d ≡ true → (a && b && c && d) ≡ true
all-four true true true true h i j k = refl
all-four false b c d h i j k = h
all-four true false c d h i j k = i
all-four true true false d h i j k = j
all-four true true true false h i j k = k

append-none : (xs : List ℕ) → xs ++ [] ≡ xs
append-none [] = refl
append-none (x ∷ xs) = ap (λ ys. x ∷ ys) (append-none xs)

weight-read : (text : List ℕ) (minus : Bool) (digits : List ℕ) (less : Bool) (power rest : List ℕ) → IsWeight text minus digits less power rest
    → IsReadWeight text minus digits less power rest
weight-read text minus digits less power rest h =
    let after : List ℕ = CARET ∷ (h.x ++ rest) in
    let w_far : far numeral_places InNumeral.Sign (h.w ++ after) ≡ length h.w = numeral-far h.w minus digits after h.w_is refl in
    let x_far : far numeral_places InNumeral.Sign (h.x ++ rest) ≡ length h.x = numeral-far h.x less power rest h.x_is (ends-figures rest h.ends) in
    let w_is : numeral text ≡ h.w = ap numeral h.text_is ∙ take_at h.w after _ (sym w_far) in
    let caret_is : text_after numeral_places InNumeral.Sign text ≡ after = ap (text_after numeral_places InNumeral.Sign) h.text_is ∙ drop_at h.w after _ (sym w_far) in
    let power_at : exponent text ≡ h.x ++ rest = ap (drop 1) caret_is in
    let x_is : numeral (exponent text) ≡ h.x = ap numeral power_at ∙ take_at h.x rest _ (sym x_far) in
    let rest_is : text_after numeral_places InNumeral.Sign (exponent text) ≡ rest = ap (text_after numeral_places InNumeral.Sign) power_at ∙ drop_at h.x rest _ (sym x_far) in
    record {
      has = all-four (has_digit (numeral text)) (begins_with CARET (text_after numeral_places InNumeral.Sign text)) (has_digit (numeral (exponent text))) (ends_word (text_after numeral_places InNumeral.Sign (exponent text)))
          (ap has_digit w_is ∙ numeral-digit h.w minus digits h.w_is) (ap (begins_with CARET) caret_is)
          (ap has_digit x_is ∙ numeral-digit h.x less power h.x_is) (ap ends_word rest_is ∙ h.ends);
      minus_is = ap (begins_with MINUS) h.text_is ∙ (split h.w minus digits after h.w_is).minus_is;
      digits_are = ap digits_of w_is ∙ (split h.w minus digits after h.w_is).digits_are;
      less_is = ap (begins_with MINUS) (x_is ∙ sym (append-none h.x)) ∙ (split h.x less power [] h.x_is).minus_is;
      power_is = ap digits_of x_is ∙ (split h.x less power [] h.x_is).digits_are;
      rest_is = rest_is;
    }

-- what is read is a weight
figures-are : (text : List ℕ) → are_digits (take (far numeral_places InNumeral.Digits text) text) ≡ true
figures-are [] = refl
figures-are (byte ∷ bytes) = by (is_figure byte) refl (figures-are bytes)
  where
    by : (b : Bool) → is_figure byte ≡ b → are_digits (take (far numeral_places InNumeral.Digits bytes) bytes) ≡ true
        → are_digits (take (cond (not b) 0 (far numeral_places InNumeral.Digits bytes + 1)) (byte ∷ bytes)) ≡ true
    by true h more =
        let e : suc (far numeral_places InNumeral.Digits bytes) ≡ far numeral_places InNumeral.Digits bytes + 1 = omega arith in
        subst (λ n. are_digits (take n (byte ∷ bytes)) ≡ true) e (ap (λ b. b && are_digits (take (far numeral_places InNumeral.Digits bytes) bytes)) h ∙ more)
    by false h more = refl

abbrev figures_in : List ℕ → List ℕ
figures_in bytes = take (far numeral_places InNumeral.Digits bytes) bytes

numeral-at : (text : List ℕ) → has_digit (numeral text) ≡ true → IsNumeral (numeral text) (begins_with MINUS (numeral text)) (digits_of (numeral text))
numeral-at [] h = no h
numeral-at (byte ∷ bytes) h = by (is_digit_byte byte || nat_eq byte DOT || nat_eq byte PLUS || nat_eq byte MINUS) refl h
  where
    plain : (b : Bool) → (nat_eq byte PLUS || nat_eq byte MINUS) ≡ b → (is_digit_byte byte || nat_eq byte DOT || nat_eq byte PLUS || nat_eq byte MINUS) ≡ true
        → has_digit (byte ∷ figures_in bytes) ≡ true → IsNumeral (byte ∷ figures_in bytes) (nat_eq byte MINUS) (cond b (figures_in bytes) (byte ∷ figures_in bytes))
    plain true signed here some = record {
      sign = byte ∷ [];
      text_is = refl;
      signed = sign-of (nat_eq byte PLUS) refl signed;
      are = figures-are bytes;
      some = digit-behind signed some;
    }
      where
        sign-of : (p : Bool) → nat_eq byte PLUS ≡ p → (nat_eq byte PLUS || nat_eq byte MINUS) ≡ true → IsSign (byte ∷ []) (nat_eq byte MINUS)
        sign-of true e s = Plus (ap (λ b. b ∷ []) (equal byte PLUS e)) (ap (λ b. nat_eq b MINUS) (equal byte PLUS e))
        sign-of false e s =
            let m : nat_eq byte MINUS ≡ true = sym (ap (λ p. p || nat_eq byte MINUS) e) ∙ s in
            Minus (ap (λ b. b ∷ []) (equal byte MINUS m)) m

        digit-behind : (nat_eq byte PLUS || nat_eq byte MINUS) ≡ true → has_digit (byte ∷ figures_in bytes) ≡ true → has_digit (figures_in bytes) ≡ true
        digit-behind s d = sym (ap (λ b. b || has_digit (figures_in bytes)) (no-digit s)) ∙ d
          where
            no-digit : (nat_eq byte PLUS || nat_eq byte MINUS) ≡ true → is_digit_byte byte ≡ false
            no-digit s = grind (arith, nat_tests)
    plain false unsigned here some = record {
      sign = [];
      text_is = refl;
      signed = Absent refl (or-right (nat_eq byte PLUS) (nat_eq byte MINUS) unsigned);
      are = ap (λ b. b && are_digits (figures_in bytes)) (figure (is_digit_byte byte) (nat_eq byte DOT) (nat_eq byte PLUS) (nat_eq byte MINUS) here unsigned) ∙ figures-are bytes;
      some = some;
    }
      where
        figure : (a b c d : Bool) → (a || b || c || d) ≡ true → (c || d) ≡ false → (a || b) ≡ true
        figure true b c d h s = refl
        figure false true c d h s = refl
        figure false false c d h s = true-false (sym h ∙ s)

    by : (b : Bool) → (is_digit_byte byte || nat_eq byte DOT || nat_eq byte PLUS || nat_eq byte MINUS) ≡ b
        → has_digit (take (cond (not b) 0 (far numeral_places InNumeral.Digits bytes + 1)) (byte ∷ bytes)) ≡ true
        → IsNumeral (take (cond (not b) 0 (far numeral_places InNumeral.Digits bytes + 1)) (byte ∷ bytes)) (begins_with MINUS (take (cond (not b) 0 (far numeral_places InNumeral.Digits bytes + 1)) (byte ∷ bytes)))
        (digits_of (take (cond (not b) 0 (far numeral_places InNumeral.Digits bytes + 1)) (byte ∷ bytes)))
    by true here d =
        let e : suc (far numeral_places InNumeral.Digits bytes) ≡ far numeral_places InNumeral.Digits bytes + 1 = omega arith in
        subst (λ n. has_digit (take n (byte ∷ bytes)) ≡ true → IsNumeral (take n (byte ∷ bytes)) (begins_with MINUS (take n (byte ∷ bytes))) (digits_of (take n (byte ∷ bytes)))) e
        (λ some. plain (nat_eq byte PLUS || nat_eq byte MINUS) refl here some) d
    by false here d = no d

weight-there : (text : List ℕ) → has_weight text ≡ true
    → IsWeight text (begins_with MINUS (numeral text)) (digits_of (numeral text)) (begins_with MINUS (numeral (exponent text))) (digits_of (numeral (exponent text)))
    (text_after numeral_places InNumeral.Sign (exponent text))
weight-there text h =
    let a = has_digit (numeral text) in
    let b = begins_with CARET (text_after numeral_places InNumeral.Sign text) in
    let c = has_digit (numeral (exponent text)) in
    let d = ends_word (text_after numeral_places InNumeral.Sign (exponent text)) in
    let caret : text_after numeral_places InNumeral.Sign text ≡ CARET ∷ exponent text = begins-cons CARET (text_after numeral_places InNumeral.Sign text) (second a b c d h) in
    record {
      w = numeral text;
      x = numeral (exponent text);
      text_is = sym (take-append-drop (far numeral_places InNumeral.Sign text) text) ∙ ap (λ xs. numeral text ++ xs) caret
          ∙ ap (λ xs. numeral text ++ (CARET ∷ xs)) (sym (take-append-drop (far numeral_places InNumeral.Sign (exponent text)) (exponent text)));
      w_is = numeral-at text (first a b c d h);
      x_is = numeral-at (exponent text) (third a b c d h);
      ends = fourth a b c d h;
    }
  where
    first : (a b c d : Bool) → (a && b && c && d) ≡ true → a ≡ true
    first true b c d h = refl
    first false b c d h = h

    second : (a b c d : Bool) → (a && b && c && d) ≡ true → b ≡ true
    second true true c d h = refl
    second true false c d h = h
    second false b c d h = no h

    third : (a b c d : Bool) → (a && b && c && d) ≡ true → c ≡ true
    third true true true d h = refl
    third true true false d h = h
    third true false c d h = no h
    third false b c d h = no h

    fourth : (a b c d : Bool) → (a && b && c && d) ≡ true → d ≡ true
    fourth true true true true h = refl
    fourth true true true false h = h
    fourth true true false d h = no h
    fourth true false c d h = no h
    fourth false b c d h = no h

-- what a weight is worth
number-in : (digits : List ℕ) (most n : ℕ) → IsNumber digits most n → number_within most digits ≡ Some n
number-in digits most n h =
    ap (λ b. cond b None (cond (nat_lt most (digits_value 0 digits)) None (Some (digits_value 0 digits)))) h.whole
    ∙ ap (λ v. cond (nat_lt most v) None (Some v)) (sym h.number_is) ∙ cond-false (nat_lt most n) None (Some n) (within h.within)
  where
    within : n ≤ most → nat_lt most n ≡ false
    within h = grind (arith, nat_tests)

number-of : (digits : List ℕ) (most n : ℕ) → number_within most digits ≡ Some n → IsNumber digits most n
number-of digits most n h = by (list_any (λ byte. nat_eq DOT byte) digits) (nat_lt most (digits_value 0 digits)) refl refl h
  where
    within : nat_lt most (digits_value 0 digits) ≡ false → digits_value 0 digits ≤ most
    within h = grind (arith, nat_tests)

    by : (a b : Bool) → list_any (λ byte. nat_eq DOT byte) digits ≡ a → nat_lt most (digits_value 0 digits) ≡ b
        → cond a None (cond b None (Some (digits_value 0 digits))) ≡ Some n → IsNumber digits most n
    by true b e f is = cc
    by false true e f is = cc
    by false false e f is =
        let n_is : digits_value 0 digits ≡ n = cc in
        record { whole = e; number_is = sym n_is; within = subst (λ v. v ≤ most) n_is (within f) }

abbrev worth_of : Bool → List ℕ → Bool → List ℕ → Weight
worth_of minus digits less power = weight_of minus (number_within 2147483647 digits) (number_within (most_power less) power)

worth-once : (minus : Bool) (digits : List ℕ) (less : Bool) (power : List ℕ) (worth : Weight) → IsWorth minus digits less power worth → worth ≡ worth_of minus digits less power
worth-once minus digits less power worth (Adds n m sign w x is) =
    is ∙ sym (ap (λ v. weight_of minus v (number_within (most_power less) power)) (number-in digits 2147483647 n w)
    ∙ ap (λ v. weight_of minus (Some n) v) (number-in power (most_power less) m x) ∙ ap (λ b. weight_of b (Some n) (Some m)) sign)
worth-once minus digits less power worth (Takes n m sign w x is) =
    is ∙ sym (ap (λ v. weight_of minus v (number_within (most_power less) power)) (number-in digits 2147483647 n w)
    ∙ ap (λ v. weight_of minus (Some n) v) (number-in power (most_power less) m x) ∙ ap (λ b. weight_of b (Some n) (Some m)) sign)
worth-once minus digits less power worth (Bad none is) =
    is ∙ by (number_within 2147483647 digits) (number_within (most_power less) power) refl refl
  where
    by : (v u : Option ℕ) → number_within 2147483647 digits ≡ v → number_within (most_power less) power ≡ u → weight.Bad ≡ weight_of minus v u
    by None u e f = refl
    by (Some n) None e f = refl
    by (Some n) (Some m) e f = absurd (none n m (number-of digits 2147483647 n e) (number-of power (most_power less) m f))

worth-some : (minus : Bool) (digits : List ℕ) (less : Bool) (power : List ℕ) → IsWorth minus digits less power (worth_of minus digits less power)
worth-some minus digits less power = by (number_within 2147483647 digits) (number_within (most_power less) power) refl refl minus refl
  where
    none-w : number_within 2147483647 digits ≡ None → (n m : ℕ) → IsNumber digits 2147483647 n → IsNumber power (most_power less) m → ⊥
    none-w e n m w x = let f = number-in digits 2147483647 n w in cc

    none-x : number_within (most_power less) power ≡ None → (n m : ℕ) → IsNumber digits 2147483647 n → IsNumber power (most_power less) m → ⊥
    none-x e n m w x = let f = number-in power (most_power less) m x in cc

    by : (v u : Option ℕ) → number_within 2147483647 digits ≡ v → number_within (most_power less) power ≡ u → (s : Bool) → minus ≡ s
        → IsWorth minus digits less power (weight_of s v u)
    by None u e f s g = Bad (none-w e) refl
    by (Some n) None e f s g = Bad (none-x f) refl
    by (Some n) (Some m) e f true g = Takes n m g (number-of digits 2147483647 n e) (number-of power (most_power less) m f) refl
    by (Some n) (Some m) e f false g = Adds n m g (number-of digits 2147483647 n e) (number-of power (most_power less) m f) refl

-- a line and what follows its weight
pub record IsWeighedOnce (line : List ℕ) (worth : Weight) (rest : List ℕ) : Type 0 where
  pub worth_is : worth ≡ weight_at line
  pub rest_is : rest ≡ after_weight line

pub weighed-once : (line : List ℕ) (worth : Weight) (rest : List ℕ) → IsWeighed line worth rest → IsWeighedOnce line worth rest
weighed-once line worth rest (Bare none worth_is rest_is) = by (has_weight line) refl
  where
    by : (b : Bool) → has_weight line ≡ b → IsWeighedOnce line worth rest
    by true h = absurd (none _ _ _ _ _ (weight-there line h))
    by false h = record {
      worth_is = worth_is ∙ sym (cond-false (has_weight line) _ _ h);
      rest_is = rest_is ∙ sym (cond-false (has_weight line) _ _ h);
    }
weighed-once line worth rest (Weighted minus less digits power last blanks w v is apart) =
    let r = weight-read line minus digits less power last w in
    let value_is : weight_of (begins_with MINUS line) (number_within 2147483647 (digits_of (numeral line))) (exponent_value (numeral (exponent line)))
    ≡ worth_of minus digits less power =
    ap (λ b. weight_of b (number_within 2147483647 (digits_of (numeral line))) (exponent_value (numeral (exponent line)))) r.minus_is
    ∙ ap (λ xs. weight_of minus (number_within 2147483647 xs) (exponent_value (numeral (exponent line)))) r.digits_are
    ∙ ap (λ b. weight_of minus (number_within 2147483647 digits) (number_within (cond b 0 2147483647) (digits_of (numeral (exponent line))))) r.less_is
    ∙ ap (λ xs. weight_of minus (number_within 2147483647 digits) (number_within (cond less 0 2147483647) xs)) r.power_is in
    let behind_is : text_after run_places Run.Blanks (text_after numeral_places InNumeral.Sign (exponent line)) ≡ rest =
    ap (text_after run_places Run.Blanks) (r.rest_is ∙ is) ∙ drop_at blanks rest _ (sym (blanks-far blanks rest apart)) in
    record {
      worth_is = worth-once minus digits less power worth v ∙ sym (cond-true (has_weight line) _ _ r.has ∙ value_is);
      rest_is = sym (cond-true (has_weight line) _ _ r.has ∙ behind_is);
    }

pub weighed-some : (line : List ℕ) → IsWeighed line (weight_at line) (after_weight line)
weighed-some line = by (has_weight line) refl
  where
    by : (b : Bool) → has_weight line ≡ b → IsWeighed line (weight_at line) (after_weight line)
    by false h =
        Bare (λ minus less digits power last w. true-false (sym (weight-read line minus digits less power last w).has ∙ h))
        (cond-false (has_weight line) _ _ h) (cond-false (has_weight line) _ _ h)
    by true h =
        let w = weight-there line h in
        let r = weight-read line _ _ _ _ _ w in
        let after = text_after numeral_places InNumeral.Sign (exponent line) in
        let minus_is : begins_with MINUS line ≡ begins_with MINUS (numeral line) = r.minus_is in
        let worth_is : weight_at line ≡ worth_of (begins_with MINUS (numeral line)) (digits_of (numeral line)) (begins_with MINUS (numeral (exponent line))) (digits_of (numeral (exponent line))) =
        cond-true (has_weight line) _ _ h
        ∙ ap (λ b. weight_of b (number_within 2147483647 (digits_of (numeral line))) (exponent_value (numeral (exponent line)))) minus_is in
        let rest_is : after_weight line ≡ text_after run_places Run.Blanks after = cond-true (has_weight line) _ _ h in
        subst (λ v. IsWeighed line v (after_weight line)) (sym worth_is)
        (subst (λ xs. IsWeighed line (worth_of (begins_with MINUS (numeral line)) (digits_of (numeral line)) (begins_with MINUS (numeral (exponent line))) (digits_of (numeral (exponent line)))) xs) (sym rest_is)
        (Weighted _ _ _ _ after (take (far run_places Run.Blanks after) after) w
        (worth-some (begins_with MINUS (numeral line)) (digits_of (numeral line)) (begins_with MINUS (numeral (exponent line))) (digits_of (numeral (exponent line))))
        (sym (take-append-drop (far run_places Run.Blanks after) after)) (blanks-run after)))
