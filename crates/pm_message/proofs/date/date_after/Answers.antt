use Rattle.std.proofs.Common.{◌≡◌, ◌+ℤ◌, pos, to_z, w64, ◌∙◌, arith}
use Rattle.std.proofs.lemmas.Int.{to_z_pos}
use Rattle.std.proofs.lemmas.Result.{IfOk-weaker}
use Rattle.jiff.specs.Words.{epoch_day}
use Rattle.jiff.proofs.SpanFacts.{signed_arith, date_add-days, can_add-days}
use Rattle.pm_message.proofs.DayLemmas.{first_day}
use Rattle.pm_message.proofs.date.date_after.Goals as goal

pub returns-clause-value : goal.returns-clause-value
returns-clause-value c =
    let number : to_z w64 c.args.number ≡ pos c.args.number = to_z_pos w64 c.args.number (omega (arith, c.requires)) in
    let added : epoch_day c.date.result +ℤ to_z w64 c.args.number ≡ pos c.args.number = rw (first_day c.date.result c.date.ensures, number) (omega (arith, signed_arith)) in
    IfOk-weaker c.checked_add.result _ _
    (λ d e. e ∙ date_add-days c.date.result (to_z w64 c.args.number) c.days.result c.days.ensures ∙ added)
    c.checked_add.ensures.value

pub returns-clause-succeeds : goal.returns-clause-succeeds
returns-clause-succeeds c =
    let number : to_z w64 c.args.number ≡ pos c.args.number = to_z_pos w64 c.args.number (omega (arith, c.requires)) in
    let added : epoch_day c.date.result +ℤ to_z w64 c.args.number ≡ pos c.args.number = rw (first_day c.date.result c.date.ensures, number) (omega (arith, signed_arith)) in
    let can = can_add-days c.date.result (to_z w64 c.args.number) c.days.result c.days.ensures in
    c.checked_add.ensures.succeeds.1 (can.1 (rw added (omega (arith, signed_arith, c.requires), omega (arith, signed_arith, c.requires))))
