use Rattle.std.proofs.Common.{◌*◌, ◌∙◌, ap, rules, SFits, w32}
use Rattle.std.proofs.lemmas.Int.{to_z-of_z}
use Rattle.std.specs.Prelude.{◌+ℤ◌, int_lt, pos}
use Rattle.pm_meaning.specs.Scores.{bounded}
use Rattle.pm_meaning.proofs.ScoreLemmas.{score_is, signed}
use Rattle.pm_meaning.proofs.weighing.add_matches.Goals as goal

pub returns-clause-value : goal.returns-clause-value
returns-clause-value c =
    let ft = c.ranges.total in
    let fw = c.ranges.w in
    let fr : SFits w32 c.moved.result = search rules in
    let e = simp to_z-of_z at c.moved.ensures.value in
    let u = simp to_z-of_z at c.unsigned_abs.ensures.value in
    let s = score_is c.args.total c.args.w c.args.x c.args.count c.powers.result c.requires.low c.requires.high c.powers.ensures in
    simp to_z-of_z (e ∙ ap (λ n. bounded (c.args.total +ℤ signed (int_lt c.args.w (pos 0)) (n * c.powers.result))) u ∙ s)
