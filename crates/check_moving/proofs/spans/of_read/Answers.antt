use Rattle.std.proofs.Common.{◌≡◌, IfOk, ap, ◌∙◌, subst}
use Rattle.check_moving.specs.Found.{of_front}
use Rattle.check_moving.specs.Leads.{front_of}
use Rattle.check_moving.proofs.spans.of_read.Goals as goal

pub returns : goal.returns
returns c =
    subst (λ front. IfOk c.of_front.result (λ forms. forms.items ≡ of_front c.args.standing.now c.args.names.now c.args.text.now c.args.condition.now.weight front))
    (c.read_lead-lead.ensures ∙ ap front_of c.as_slice.ensures) c.of_front.ensures
