use Rattle.std.proofs.Common.{◌≡◌, ap, sym, ◌∙◌, length, rules}
use Rattle.std.proofs.lemmas.List.{length-map}
use Rattle.pm_code.specs.Flat.{flat_of, flats_of, written}
use Rattle.pm_code.specs.Ahead.{ends_right}
use Rattle.pm_code.proofs.Reading.{right-whole}
use Rattle.pm_code.proofs.Places.{between_code}
use Rattle.pm_code.proofs.compiling.compile.Goals as goal

pub invariant_of-result : goal.invariant_of-result
invariant_of-result c =
    let whole : flats_of c.put_all.new.steps.items ≡ written 0 c.args.rc.now.statements = search rules in
    record { ends = ap (ends_right 0) whole ∙ right-whole c.args.rc.now.statements }

pub returns-clause-between : goal.returns-clause-between
returns-clause-between c =
    let whole : flats_of c.put_all.new.steps.items ≡ written 0 c.args.rc.now.statements = search rules in
    between_code c.args.rc.now.statements (flats_of c.put_all.new.steps.items) (length c.put_all.new.steps.items) whole
    (sym (length-map c.put_all.new.steps.items flat_of))
