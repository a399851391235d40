use Rattle.std.proofs.Common.{◌≡◌, ◌<◌, ◌-◌, ◌*◌, ◌+◌, get_or, refl, arith, true, nat_lt}
use Rattle.pm_recipe.specs.Weights.{digits_value}
use Rattle.pm_recipe.proofs.Digits.{past-most}
use Rattle.pm_recipe.proofs.conditions.sum_of_digits.Goals as goal

pub returns-then-value-most : goal.returns-then-value-most
returns-then-value-most c =
    let over : c.args.most < 10 * c.loop-byte.value + (get_or c.args.text.now c.loop-byte.byte-index 0 - 48) =
    omega (arith, c.if-value-most.true, c.saturating_sub.ensures) in
    let past : nat_lt c.args.most (digits_value 0 c.args.text.now) ≡ true =
    past-most c.args.most c.loop-byte.value c.loop-byte.byte-index c.args.text.now c.loop-byte.invariant.value c.loop-byte-test.true over in
    record { value = rw past refl }
