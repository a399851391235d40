use Rattle.std.proofs.Common.{◌≡◌, IfOk, subst}
use Rattle.check_moving.specs.Found.{of_read}
use Rattle.check_moving.proofs.spans.of_condition.Goals as goal

pub returns : goal.returns
returns c =
    subst (λ condition. IfOk c.of_read.result (λ forms. forms.items ≡ of_read c.args.standing.now c.args.names.now c.args.text.now condition))
    c.in_ok-condition.ensures c.of_read.ensures
