use Rattle.std.proofs.Common.{None, Some, refl, sym, ap, ◌∙◌}
use Rattle.pm_meaning.specs.Searching.{expression_of}
use Rattle.pm_meaning.specs.Weighing.{sought_outcome}
use Rattle.pm_conds.proofs.Choices.{comes_to}
use Rattle.pm_conds.proofs.SearchLemmas.{reading_is, no_reading}
use Rattle.pm_conds.proofs.WeighLemmas.{sought_none}
use Rattle.pm_conds.proofs.searching.search_area.Goals as goal

pub returns-in-Err-Defect : goal.returns-in-Err-Defect
returns-in-Err-Defect c =
    let q = c.args.question.now in
    sought_none q.weight q.inverted c.args.distinguish c.args.area.now
    ∙ sym (ap (sought_outcome q.weight q.inverted c.args.distinguish c.args.area.now) (no_reading c.args.text.now (c.in-Err-Defect.ensures.defect (rw c.in-Err-Defect.field-0-is refl))))

pub returns-in-None : goal.returns-in-None
returns-in-None c =
    let q = c.args.question.now in
    let read = reading_is c.args.text.now c.in-Ok.expr c.in-Ok.ensures.ok in
    comes_to c.find_area.result (sought_outcome None q.inverted c.args.distinguish c.args.area.now (Some c.in-Ok.expr)) _
    (ap (sought_outcome None q.inverted c.args.distinguish c.args.area.now) (sym read)
    ∙ ap (λ w. sought_outcome w q.inverted c.args.distinguish c.args.area.now (expression_of c.args.text.now)) (sym c.in-None.is)) c.find_area.ensures

pub returns-in-Some : goal.returns-in-Some
returns-in-Some c =
    let q = c.args.question.now in
    let read = reading_is c.args.text.now c.in-Ok.expr c.in-Ok.ensures.ok in
    comes_to c.count_area.result (sought_outcome (Some c.in-Some.weight) q.inverted c.args.distinguish c.args.area.now (Some c.in-Ok.expr)) _
    (ap (sought_outcome (Some c.in-Some.weight) q.inverted c.args.distinguish c.args.area.now) (sym read)
    ∙ ap (λ w. sought_outcome w q.inverted c.args.distinguish c.args.area.now (expression_of c.args.text.now)) (sym c.in-Some.is)) c.count_area.ensures
