-- Sums that are computed up to where they leave the range.
use Rattle.std.proofs.Common.{◌≡◌, inl, inr, ℕ, zero, suc, ◌+◌, ◌-◌, ◌*◌, ◌/◌, ◌^◌, ◌<◌, ◌≤◌, min, Bool, true, false, refl, sym, ap, ◌∙◌, arith, Option, add-zero, zero-mul}
use Rattle.std.specs.Prelude.{ℤ, pos, negsuc, ◌+ℤ◌, ◌*ℤ◌, ◌≤ℤ◌, neg_ℤ, Some, None, int_div, unsigned_abs, int_lt, if◌then◌else◌}
use Rattle.std.proofs.lemmas.Int.{ints, clamps}
use Rattle.std.proofs.lemmas.Bool.{cases_lt, le-ltb}
use Rattle.std.proofs.Math.Nat.{mul_assoc, pow-zero, pow-succ', mul-le-mul, mul-add, zero-div}
use Rattle.pm_meaning.specs.Scores.{powers, bounded, add_score, counted_length, length_share, has_share, add_length}

-- so much more, or so much less
abbrev pub signed : Bool → ℕ → ℤ
signed less amount = if less then neg_ℤ (pos amount) else pos amount

-- amounts that are the same up to where they leave the range
pub far : (t : ℤ) (s : Bool) (a b : ℕ) → neg_ℤ (pos 2147483647) ≤ℤ t → t ≤ℤ pos 2147483647 → min a 4294967295 ≡ min b 4294967295
    → bounded (t +ℤ signed s a) ≡ bounded (t +ℤ signed s b)
far t true a b low high same = omega (arith, ints, clamps)
far t false a b low high same = omega (arith, ints, clamps)

-- one power more in front
pub one_more : (x n : ℕ) → powers x (suc n) ≡ 1 + x * powers x n
one_more x zero = let one = pow-zero x in grind arith
one_more x (suc n) =
    let before = one_more x n in
    let power = pow-succ' x n in
    let both = mul-add x (powers x n) (x ^ n) in
    omega (arith, before, power, both)

-- of 0 the first power alone is more than 0
pub powers_zero : (n : ℕ) → powers 0 n ≡ min n 1
powers_zero zero = refl
powers_zero (suc n) = let more = one_more 0 n in omega (arith, more)

-- of 1 each power is 1
pub powers_one : (n : ℕ) → powers 1 n ≡ n
powers_one zero = refl
powers_one (suc n) = let before = powers_one n in let more = one_more 1 n in omega (arith, before, more)

pub powers_grow : (x n m : ℕ) → powers x n ≤ powers x (n + m)
powers_grow x n zero = rw add-zero (let P : powers x n ≤ powers x n = omega arith in P)
powers_grow x n (suc m) = let before = powers_grow x n m in let e : n + suc m ≡ suc (n + m) = omega arith in rw e (omega (arith, before))

-- a weight times so much
pub times : (w : ℤ) (n : ℕ) → w *ℤ pos n ≡ signed (int_lt w (pos 0)) (unsigned_abs w * n)
times (pos k) n = rw (le-ltb k 0 (omega arith)) refl
times (negsuc k) n = refl

-- the same divided
pub divided : (w : ℤ) (a b : ℕ) → int_div (w *ℤ pos a) (pos b) ≡ signed (int_lt w (pos 0)) (unsigned_abs w * a / b)
divided (pos k) a b = rw (le-ltb k 0 (omega arith)) refl
divided (negsuc k) a b = by (suc k * a)
  where
    by : (n : ℕ) → int_div (neg_ℤ (pos n)) (pos b) ≡ neg_ℤ (pos (n / b))
    by zero = rw (zero-div b) refl
    by (suc n) = refl

-- a product of a number that was cut off
pub cut_product : (a n : ℕ) → min (a * min n 4294967295) 4294967295 ≡ min (a * n) 4294967295
cut_product zero n = simp zero-mul
cut_product (suc a) n = elim (cases_lt n 4294967295) [
  | inl less ↦ (let same : min n 4294967295 ≡ n = omega arith in rw same refl)
  | inr ge ↦ (
      let same : min n 4294967295 ≡ 4294967295 = omega arith in
      let low : 4294967295 ≤ suc a * 4294967295 = grind arith in
      let high : n ≤ suc a * n = grind arith in
      rw same (omega (arith, low, high, ge)))
]

pub first_power : (b : ℕ) → b ≡ b ^ 1
first_power b = let one = pow-succ' b 0 in let none = pow-zero b in let same : b ^ 1 ≡ b * b ^ 0 = one in rw same (rw none (omega arith))

pub third_power : (b : ℕ) → b * b * b ≡ b ^ 3
third_power b =
    let three : b ^ 3 ≡ b * b ^ 2 = pow-succ' b 2 in
    let two : b ^ 2 ≡ b * b ^ 1 = pow-succ' b 1 in
    let one = first_power b in
    rw three (rw two (rw (← one) (mul_assoc b b b)))

pub third_bound : (b : ℕ) → b ≤ 134217728 → b * b * b ≤ 2417851639229258349412352
third_bound b h =
    let two : b * b ≤ 134217728 * 134217728 = mul-le-mul h h in
    let three : b * b * b ≤ 134217728 * 134217728 * 134217728 = mul-le-mul two h in
    three

pub sum_of_zero : (x n : ℕ) → x ≡ 0 → min n 1 ≡ min (powers x n) 4294967295
sum_of_zero x n is = rw is (rw powers_zero (omega arith))

pub sum_of_one : (x n : ℕ) → x ≡ 1 → min n 4294967295 ≡ min (powers x n) 4294967295
sum_of_one x n is = rw is (rw powers_one refl)

-- with one power more the sum leads out of the range, and so does the whole sum
pub sum_beyond : (x n m sum : ℕ) → sum ≡ powers x n → n < m → 4294967295 ≤ 1 + x * sum → 4294967295 ≡ min (powers x m) 4294967295
sum_beyond x n m sum is less beyond =
    let more = one_more x n in
    let grown = powers_grow x (suc n) (m - suc n) in
    let e : suc n + (m - suc n) ≡ m = omega arith in
    let all : powers x (suc n) ≤ powers x m = rw e at grown in
    let here : 4294967295 ≤ 1 + x * powers x n = rw is at beyond in
    omega (arith, more, all, here)

-- the sum that was computed up to where it leads out of the range gives the score
pub score_is : (t w : ℤ) (x n sum : ℕ) → neg_ℤ (pos 2147483647) ≤ℤ t → t ≤ℤ pos 2147483647 → sum ≡ min (powers x n) 4294967295
    → bounded (t +ℤ signed (int_lt w (pos 0)) (unsigned_abs w * sum)) ≡ add_score t w x n
score_is t w x n sum low high is =
    rw is (far t (int_lt w (pos 0)) (unsigned_abs w * min (powers x n) 4294967295) (unsigned_abs w * powers x n) low high (cut_product (unsigned_abs w) (powers x n)))
    ∙ ap (λ z. bounded (t +ℤ z)) (sym (times w (powers x n)))

-- the share that was cut off gives the score
share_one : (t w : ℤ) (a b share : ℕ) → neg_ℤ (pos 2147483647) ≤ℤ t → t ≤ℤ pos 2147483647 → share ≡ min (unsigned_abs w * a / b) 4294967295
    → bounded (t +ℤ signed (int_lt w (pos 0)) share) ≡ bounded (t +ℤ int_div (w *ℤ pos a) (pos b))
share_one t w a b share low high is =
    far t (int_lt w (pos 0)) share (unsigned_abs w * a / b) low high (rw is (omega arith))
    ∙ ap (λ z. bounded (t +ℤ z)) (sym (divided w a b))

pub share_is : (over : Bool) (t w : ℤ) (x length number share : ℕ) → neg_ℤ (pos 2147483647) ≤ℤ t → t ≤ℤ pos 2147483647
    → share ≡ min (unsigned_abs w * (if over then length else number) ^ x / (if over then number else length) ^ x) 4294967295
    → bounded (t +ℤ signed (int_lt w (pos 0)) share) ≡ bounded (t +ℤ length_share over w x length number)
share_is true t w x length number share low high is = share_one t w (length ^ x) (number ^ x) share low high is
share_is false t w x length number share low high is = share_one t w (number ^ x) (length ^ x) share low high is

-- the score, where there is a share
abbrev shared : ℤ → ℤ → ℕ → ℕ → ℕ → Bool → ℤ
shared t w x length number over = bounded (t +ℤ length_share over w x (counted_length x length) number)

abbrev shared_if : ℤ → ℤ → ℕ → ℕ → ℕ → Bool → Bool → Option ℤ
shared_if t w x length number over b = if b then Some (shared t w x length number over) else None

pub none_without : (t w : ℤ) (x length number : ℕ) (over : Bool) → has_share x number ≡ false → None ≡ add_length t w x length number over
none_without t w x length number over none = sym (ap (shared_if t w x length number over) none)

pub some_with : (t w : ℤ) (x length number : ℕ) (over : Bool) (r : ℤ) → has_share x number ≡ true → r ≡ shared t w x length number over
    → Some r ≡ add_length t w x length number over
some_with t w x length number over r some is = ap (λ z. Some z) is ∙ sym (ap (shared_if t w x length number over) some)
