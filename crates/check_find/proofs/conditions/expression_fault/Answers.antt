use Rattle.std.proofs.Common.{None, Some, if◌then◌else◌, refl, sym, ap}
use Rattle.std.specs.Prelude.{is_some}
use Rattle.pm_conds.proofs.SearchLemmas.{reading_is, no_reading}
use Rattle.check_find.specs.declared.codes.Fault.TheVariants.{Expression}
use Rattle.check_find.proofs.conditions.expression_fault.Goals as goal

pub returns-in-Ok : goal.returns-in-Ok
returns-in-Ok c = let read = reading_is c.args.text.now c.in-Ok.expr c.in-Ok.ensures.ok in sym (ap (λ e. if is_some e then None else Some Expression) read)

pub returns-in-Err-Defect : goal.returns-in-Err-Defect
returns-in-Err-Defect c =
    let lacks = no_reading c.args.text.now (c.in-Err-Defect.ensures.defect (rw c.in-Err-Defect.field-0-is refl)) in
    sym (ap (λ e. if is_some e then None else Some Expression) lacks)
