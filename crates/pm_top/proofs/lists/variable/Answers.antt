use Rattle.std.proofs.Common.{◌≡◌, true, false, length, arith, ap, ◌∙◌}
use Rattle.std.specs.Prelude.{string_bytes}
use Rattle.std.proofs.lemmas.Grind.{common_steps}
use Rattle.std.specs.List.{list_any, position_or_len, before_first, after_first}
use Rattle.pm_bytes.specs.Name.{has_zero}
use Rattle.pm_top.specs.Words.{is_equals}
use Rattle.pm_top.proofs.Assignments.{no_equals, no_zero_before, no_zero_after}
use Rattle.pm_top.proofs.lists.variable.Goals as goal

pub from_text-name-requires : goal.from_text-name-requires
from_text-name-requires c =
    let is : string_bytes c.in_ok-from_str.field-0 ≡ before_first is_equals c.args.word.now = grind (arith, common_steps) in
    ap has_zero is ∙ no_zero_before c.args.word.now c.requires.usable

pub from_text-value-requires : goal.from_text-value-requires
from_text-value-requires c =
    let is : string_bytes c.in_ok-from_str-2.field-0 ≡ after_first is_equals c.args.word.now = grind (arith, common_steps) in
    ap has_zero is ∙ no_zero_after c.args.word.now c.requires.usable

pub unreachable-requires : goal.unreachable-requires
unreachable-requires c =
    let far : position_or_len is_equals c.args.word.now ≡ length c.args.word.now = grind (arith, common_steps) in
    let none : list_any is_equals c.args.word.now ≡ false = no_equals c.args.word.now far in
    let some : list_any is_equals c.args.word.now ≡ true = c.requires.assigns in
    absurd (cc)
