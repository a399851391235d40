use Rattle.std.proofs.Common.{pos, ap, refl, ◌∙◌, arith, w8, w16}
use Rattle.pm_message.specs.Calendar.{day_at}
use Rattle.pm_message.proofs.DayLemmas.{day_at-date, day_at-bounds, day_at-counted, from_bits}
use Rattle.pm_message.proofs.date.civil_day.Goals as goal

pub overflow_cast-result : goal.overflow_cast-result
overflow_cast-result c =
    let is = day_at-date c.args.number c.in-Ok.date (omega (arith, c.requires)) c.in-Ok.ensures.value in
    let bounds = day_at-bounds c.args.number (omega (arith, c.requires)) in
    let year = from_bits w16 c.year.result (day_at c.args.number).year (c.year.ensures ∙ is.0) (omega (arith, bounds.0)) in
    rw year (tt, omega (arith, bounds.0))

pub returns-clause-value : goal.returns-clause-value
returns-clause-value c =
    let is = day_at-date c.args.number c.in-Ok.date (omega (arith, c.requires)) c.in-Ok.ensures.value in
    let bounds = day_at-bounds c.args.number (omega (arith, c.requires)) in
    let year = from_bits w16 c.year.result (day_at c.args.number).year (c.year.ensures ∙ is.0) (omega (arith, bounds.0)) in
    let month = from_bits w8 c.month.result (day_at c.args.number).month (c.month.ensures ∙ ap pos is.1) (omega (arith, bounds.1)) in
    let day = from_bits w8 c.day.result (day_at c.args.number).day (c.day.ensures ∙ ap pos is.2) (omega (arith, bounds.2)) in
    rw (year, month, day) refl

pub returns-clause-counted : goal.returns-clause-counted
returns-clause-counted c =
    let is = day_at-date c.args.number c.in-Ok.date (omega (arith, c.requires)) c.in-Ok.ensures.value in
    let bounds = day_at-bounds c.args.number (omega (arith, c.requires)) in
    let year = from_bits w16 c.year.result (day_at c.args.number).year (c.year.ensures ∙ is.0) (omega (arith, bounds.0)) in
    let month = from_bits w8 c.month.result (day_at c.args.number).month (c.month.ensures ∙ ap pos is.1) (omega (arith, bounds.1)) in
    let day = from_bits w8 c.day.result (day_at c.args.number).day (c.day.ensures ∙ ap pos is.2) (omega (arith, bounds.2)) in
    rw (year, month, day) (day_at-counted c.args.number (omega (arith, c.requires)))
