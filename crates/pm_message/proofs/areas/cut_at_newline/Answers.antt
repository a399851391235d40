use Rattle.std.proofs.Common.{◌≡◌, false, ◌+◌, ◌≤◌, ◌∷◌, ◌++◌, length, take, sym, ap, ◌∙◌, subst, arith}
use Rattle.std.proofs.lemmas.List.{take_all, take_rest}
use Rattle.std.specs.List.{list_any}
use Rattle.pm_message.specs.FromLine.{is_newline}
use Rattle.pm_message.proofs.CutLemmas.{lacks_before, cut_there}
use Rattle.pm_message.proofs.areas.cut_at_newline.Goals as goal

pub returns-in_default-clause-none : goal.returns-in_default-clause-none
returns-in_default-clause-none c =
    let bytes = c.args.bytes.now in
    let whole : length bytes ≤ length bytes = omega arith in
    λ none. subst (λ l. list_any is_newline l ≡ false) (take_all (length bytes) bytes whole) (lacks_before 10 bytes (length bytes) whole c.in_default.ensures)

pub returns-clause-cut : goal.returns-clause-cut
returns-clause-cut c =
    let bytes = c.args.bytes.now in
    let place = c.in-Some.place in
    let first = c.in-Some.ensures in
    let within : place ≤ length bytes = omega (arith, first.0.high) in (
      cut_there 10 bytes place first.0.high first.1 ∙ ap (λ l. take place bytes ++ 10 ∷ l) (sym (take_rest bytes (place + 1))),
      lacks_before 10 bytes place within first.0.before,
    )
