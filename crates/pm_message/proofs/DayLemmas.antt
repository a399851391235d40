-- The days of the calendar have the numbers by which jiff counts them.
use Rattle.std.proofs.Common.{◌-ℤ◌, ◌-◌, ◌∙◌, sym, ◌≡◌, ℕ, zero, suc, ◌+◌, ◌<◌, ◌≤◌, ℤ, pos, refl, ap, subst, unsigned_abs, to_z, of_z, ◌^◌, ⊎_elim, arith, rules}
use Rattle.std.proofs.lemmas.Bool.{cases_lt, cases_eq, lt-ltb, le-ltb, eq-eqb, ne_eqb}
use Rattle.std.specs.Int.{Width}
use Rattle.jiff_core.specs.Calendar.{IsCivilDate, days_from_civil, day_count, days_in_month as month_length, days_in_year, days_of_years as jiff_years, days_of_months as jiff_months}
use Rattle.jiff_core.specs.Date.{epoch_day}
use Rattle.jiff_core.specs.declared.civil.date.Date.{Date}
use Rattle.jiff_core.proofs.CalendarLemmas.{days_in_month_bounds, day_count-epoch, days_from_civil-day_count}
use Rattle.jiff_core.proofs.SignedLemmas.{back_small}
use Rattle.jiff_core.proofs.StandardFacts.{known_days}
use Rattle.jiff.proofs.Family.{epoch_day_injective, days_from_civil-day, days_from_civil-next_month, days_from_civil-next_year, days_from_civil-max}
use Rattle.jiff.proofs.SpanFacts.{signed_arith}
use borrow.Author.Differences.{up, down}
use mir.Val.{hbits}
use Rattle.pm_message.specs.Calendar.{days_in_month, day_after, day_at, days_of_years, days_of_months, days_before, IsCalendarDay, IsDayNumber}
use Rattle.pm_message.specs.declared.date.Day.{Day}

-- the calendar has the day from 1970 on, and this is its number
pub record IsNumbered (n : ℕ) (day : Day) : Type 0 where
  pub from : 1970 ≤ day.year
  pub civil : IsCivilDate (pos day.year) day.month day.day
  pub number : days_from_civil (pos day.year) day.month day.day ≡ pos n

same_month : (n y m d : ℕ) → 1970 ≤ y → IsCivilDate (pos y) m d → days_from_civil (pos y) m d ≡ pos n → d < days_in_month y m → IsNumbered (suc n) (record { year = y; month = m; day = d + 1 })
same_month n y m d from civil number lt = record {
  from = from;
  civil = (civil.0, civil.1, (omega arith, omega arith));
  number = omega (arith, signed_arith, number, days_from_civil-day (pos y) m d (d + 1) civil.2.0 (omega arith));
}

next_month : (n y m d : ℕ) → 1970 ≤ y → IsCivilDate (pos y) m d → days_from_civil (pos y) m d ≡ pos n → days_in_month y m ≤ d → (m ≡ 12 → ⊥) → IsNumbered (suc n) (record { year = y; month = m + 1; day = 1 })
next_month n y m d from civil number ge ne =
    let in_year : m + 1 ≤ 12 = omega (arith, civil.1.1) in
    let last : d ≡ month_length (pos y) m = omega (arith, civil.2.1) in
    let long = days_in_month_bounds (pos y) (m + 1) in record {
      from = from;
      civil = (civil.0, (omega arith, in_year), (omega arith, omega (arith, long.1)));
      number = omega (arith, signed_arith, number, days_from_civil-next_month (pos y) m d civil.1.0 last);
    }

next_year : (n y d : ℕ) → suc n ≤ 2_932_896 → 1970 ≤ y → IsCivilDate (pos y) 12 d → days_from_civil (pos y) 12 d ≡ pos n → 31 ≤ d → IsNumbered (suc n) (record { year = y + 1; month = 1; day = 1 })
next_year n y d low from civil number ge =
    let last : d ≡ 31 = omega (arith, civil.2.1) in
    let here : days_from_civil (pos y) 12 31 ≡ pos n = subst (λ x. days_from_civil (pos y) 12 x ≡ pos n) last number in
    let not_last : y ≡ 9999 → ⊥ = λ e. (let at : days_from_civil (pos 9999) 12 31 ≡ pos n = subst (λ x. days_from_civil (pos x) 12 31 ≡ pos n) e here in omega (arith, signed_arith, at, days_from_civil-max)) in
    let next = days_from_civil-next_year (pos y) (pos (y + 1)) (omega (arith, signed_arith)) (omega (arith, signed_arith)) in record {
      from = omega arith;
      civil = ((omega (arith, signed_arith), omega (arith, signed_arith, civil.0.1, not_last)), (omega arith, omega arith), (omega arith, omega arith));
      number = omega (arith, signed_arith, here, next);
    }

day_after-numbered : (n : ℕ) (day : Day) → suc n ≤ 2_932_896 → IsNumbered n day → IsNumbered (suc n) (day_after day)
day_after-numbered n day low w = ⊎_elim
    (λ lt. rw (lt-ltb day.day (days_in_month day.year day.month) lt) (same_month n day.year day.month day.day w.from w.civil w.number lt))
    (λ ge. rw (le-ltb day.day (days_in_month day.year day.month) ge) (⊎_elim
    (λ e. rw (eq-eqb day.month 12 e) (next_year n day.year day.day low w.from
    (subst (λ m. IsCivilDate (pos day.year) m day.day) e w.civil)
    (subst (λ m. days_from_civil (pos day.year) m day.day ≡ pos n) e w.number)
    (subst (λ m. days_in_month day.year m ≤ day.day) e ge)))
    (λ ne. rw (ne_eqb day.month 12 ne) (next_month n day.year day.month day.day w.from w.civil w.number ge ne))
    (cases_eq day.month 12)))
    (cases_lt day.day (days_in_month day.year day.month))

pub day_at-numbered : (n : ℕ) → n ≤ 2_932_896 → IsNumbered n (day_at n)
unfolding day_at
day_at-numbered zero low = record { from = omega arith; civil = search rules; number = known_days.0 }
day_at-numbered (suc n) low = day_after-numbered n (day_at n) low (day_at-numbered n (omega arith))

-- a day of the calendar in jiff's words
abbrev as_date : (n : ℕ) (day : Day) → IsNumbered n day → Date
as_date n day w = record { year = pos day.year; month = day.month; day = day.day; year_in = w.civil.0; month_in = w.civil.1; day_in = w.civil.2 }

-- the one date with this number is this day
pub day_at-date : (n : ℕ) (date : Date) → n ≤ 2_932_896 → epoch_day date ≡ pos n → (date.year ≡ pos (day_at n).year) × (date.month ≡ (day_at n).month) × (date.day ≡ (day_at n).day)
day_at-date n date low e =
    let w = day_at-numbered n low in epoch_day_injective date (as_date n (day_at n) w) (rw w.number e)

pub day_at-bounds : (n : ℕ) → n ≤ 2_932_896 → ((day_at n).year ≤ 9999) × ((1 ≤ (day_at n).month) × ((day_at n).month ≤ 12)) × ((day_at n).day ≤ 31)
day_at-bounds n low =
    let w = day_at-numbered n low in
    let long = days_in_month_bounds (pos (day_at n).year) (day_at n).month in
    (omega (arith, signed_arith, w.civil.0.1), w.civil.1, omega (arith, w.civil.2.1, long.0))

-- a small number comes back from its bits as it was
pub from_bits : (w : Width) (z : ℤ) (n : ℕ) → z ≡ pos n → n < 2 ^ hbits w → to_z w (of_z w z) ≡ pos n
from_bits w z n e small = rw e (back_small w (pos n) small)

-- 1 January 1970 has the number 0
pub first_day : (date : Date) → (date.year ≡ pos 1970) × (pos date.month ≡ pos 1) × (pos date.day ≡ pos 1) → epoch_day date ≡ pos 0
first_day date h =
    let month : date.month ≡ 1 = ap unsigned_abs h.1 in
    let day : date.day ≡ 1 = ap unsigned_abs h.2 in
    rw (h.0, month, day) known_days.0

-- jiff counts the days of the months alike
months-same : (y n : ℕ) → jiff_months (pos y) n ≡ days_of_months y n
unfolding jiff_months days_of_months
months-same y zero = refl
months-same y (suc n) = ap (λ days. days + month_length (pos y) (suc n)) (months-same y n)

-- and those of the years, from another year on
years-epoch : jiff_years 11970 ≡ 4_371_953
unfolding day_count days_of_months
years-epoch =
    let none : jiff_months (pos 1970) 0 ≡ 0 = months-same 1970 0 in
    let epoch : jiff_years 11970 + (jiff_months (pos 1970) 0 + 1 - 1) ≡ 4_371_953 = day_count-epoch in
    omega (arith, epoch, none)

years-step : (n : ℕ) → jiff_years (suc n) ≡ jiff_years n + days_in_year (pos n -ℤ pos 10000)
unfolding jiff_years
years-step n = refl

years-same : (n : ℕ) → jiff_years (n + 11970) ≡ 4_371_953 + days_of_years n
unfolding days_of_years
years-same zero = omega (arith, years-epoch)
years-same (suc n) =
    let up : suc n + 11970 ≡ suc (n + 11970) = omega arith in
    let year : pos (n + 11970) -ℤ pos 10000 ≡ pos (1970 + n) = omega (arith, signed_arith) in
    let step = rw year at (years-step (n + 11970)) in
    rw up (omega (arith, step, years-same n))

number-before : (y m d : ℕ) → 1970 ≤ y → 1 ≤ d → days_from_civil (pos y) m d ≡ pos (days_before (record { year = y; month = m; day = d }))
unfolding day_count
number-before y m d low first =
    let years : y + 10000 ≡ y - 1970 + 11970 = omega arith in
    let counted : up (days_from_civil (pos y) m d) + 4_371_953 ≡ down (days_from_civil (pos y) m d) + (jiff_years (y + 10000) + (jiff_months (pos y) (m - 1) + d - 1)) = days_from_civil-day_count (pos y) m d in
    let whole = rw years at counted in
    omega (arith, signed_arith, whole, years-same (y - 1970), months-same y (m - 1))

same_day : (a b : Day) → a.year ≡ b.year → a.month ≡ b.month → a.day ≡ b.day → a ≡ b
same_day a b year month day =
    let same : ◌≡◌ {A = Day} (record { year = a.year; month = a.month; day = a.day }) (record { year = b.year; month = b.month; day = b.day }) = rw (year, month, day) refl in same

calendar-numbered : (n : ℕ) (day : Day) → IsCalendarDay day → days_before day ≡ n → IsNumbered n day
calendar-numbered n day has before = record {
  from = has.0.0;
  civil = ((omega (arith, signed_arith), omega (arith, signed_arith, has.0.1)), has.1, has.2);
  number = number-before day.year day.month day.day has.0.0 has.2.0 ∙ ap pos before;
}

-- the day with this number is the one that has so many days before it
pub day_at-counted : (n : ℕ) → n ≤ 2_932_896 → IsDayNumber n (day_at n)
day_at-counted n low =
    let w = day_at-numbered n low in record {
      calendar = ((w.from, omega (arith, signed_arith, w.civil.0.1)), w.civil.1, w.civil.2);
      before = ap unsigned_abs (sym (number-before (day_at n).year (day_at n).month (day_at n).day w.from w.civil.2.0) ∙ w.number);
      only = λ other has before. (
          let v = calendar-numbered n other has before in
          let is = day_at-date n (as_date n other v) low v.number in
          same_day other (day_at n) (ap unsigned_abs is.0) is.1 is.2
          );
    }
