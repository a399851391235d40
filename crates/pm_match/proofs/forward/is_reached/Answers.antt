use Rattle.std.proofs.Common.{Some, ◌∙◌, ap, arith}
use Rattle.std.proofs.lemmas.Option.{slice_get_read}
use Rattle.pm_match.specs.Labels.{rank}
use Rattle.pm_match.proofs.forward.is_reached.Goals as goal

pub returns-in-Some-clause-yes : goal.returns-in-Some-clause-yes
returns-in-Some-clause-yes c = λ _.
    let of = c.args.labels.now.of in (
      rank c.in-Some.field-0,
      record {
        label = c.in-Some.field-0;
        is = slice_get_read of.items _ _ _ of.ok.0 c.requires c.index.ensures ∙ ap Some c.in-Some.is;
        small = omega arith;
      },
    )
