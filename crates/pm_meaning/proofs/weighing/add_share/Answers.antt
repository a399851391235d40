use Rattle.std.proofs.Common.{◌≡◌, ◌∙◌, sym, rules, SFits, w32, min, ◌*◌, ◌/◌, ◌^◌}
use Rattle.std.specs.Prelude.{unsigned_abs, if◌then◌else◌}
use Rattle.std.proofs.lemmas.Int.{to_z-of_z}
use Rattle.pm_meaning.specs.Scores.{counted_length}
use Rattle.pm_meaning.proofs.ScoreLemmas.{share_is, none_without, some_with}
use Rattle.pm_meaning.proofs.weighing.add_share.Goals as goal

pub returns-then-not-has_share-clause-value : goal.returns-then-not-has_share-clause-value
returns-then-not-has_share-clause-value c =
    let ft = c.ranges.total in
    let fw = c.ranges.w in
    none_without c.args.total c.args.w c.args.x c.args.length c.args.number c.args.over (sym c.has_share.ensures.value ∙ c.if-not-has_share.true)

pub returns-clause-value : goal.returns-clause-value
returns-clause-value c =
    let ft = c.ranges.total in
    let fw = c.ranges.w in
    let fr : SFits w32 c.moved.result = search rules in
    let l = c.counted_length.ensures.value in
    let u = simp to_z-of_z at c.unsigned_abs.ensures.value in
    let x = c.args.x in
    let e = simp to_z-of_z at c.moved.ensures.value in
    let same : c.share_by-share.result ≡ min (unsigned_abs c.args.w * (if c.args.over then counted_length x c.args.length else c.args.number) ^ x
    / (if c.args.over then c.args.number else counted_length x c.args.length) ^ x) 4294967295 = rw (← u) (rw (← l) c.share_by-share.ensures) in
    let s = share_is c.args.over c.args.total c.args.w x (counted_length x c.args.length) c.args.number c.share_by-share.result c.requires.low c.requires.high same in
    simp to_z-of_z (some_with c.args.total c.args.w x c.args.length c.args.number c.args.over c.moved.result (sym c.has_share.ensures.value ∙ c.if-not-has_share.false) (e ∙ s))
