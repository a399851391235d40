use Rattle.std.proofs.Common.{◌∙◌}
use Rattle.formail_top.proofs.OutputLemmas.{are_selected}
use Rattle.formail_top.proofs.outputs.wanted.Goals as goal

pub returns : goal.returns
returns c =
    c.in_ok-wanted.ensures
    ∙ are_selected c.as_slice-all.result.now c.args.request.now.skip c.args.request.now.total _ c.select-first.result.0 c.select-first.result.1
    (c.as_slice-all.ensures.value ∙ c.in_ok-parts.ensures.cut) c.select-first.ensures.first c.select-first.ensures.last
