use Rattle.std.proofs.Common.{◌∙◌, ap, arith, subst, take, drop, length, ◌-◌}
use Rattle.pm_host.specs.World.{LooksRight}
use Rattle.pm_host.specs.declared.answers.Got.TheVariants.{Got as GotSome}
use Rattle.pm_host.specs.declared.answers.Looked.TheVariants.{File as LookedFile}
use Rattle.pm_overlay.specs.Base.{Holds}
use Rattle.pm_overlay.specs.Steps.{ReadsAs}
use Rattle.pm_overlay.proofs.Alters.{holds_by, holds_both, follows}
use Rattle.pm_overlay.proofs.Lists.{reads_more, reads_front}
use Rattle.pm_overlay.proofs.finding.read_grown.Goals as goal

pub returns-then-at-front-clause-right : goal.returns-then-at-front-clause-right
returns-then-at-front-clause-right g c =
    holds_by _ _ (g.B.Base.told c.look.new.self) (subst (λ name. Holds (g.B.Base.told c.look.new.self) (λ w. LooksRight (w.nodes name) (LookedFile c.in-File.len))) c.as_str.ensures.value c.in-File.ensures.right)
    (λ w h. reads_more _ w.moment c.in-File.len c.args.grown.now.kept c.min-front.result c.args.at _ c.copy_part.result c.args.grown.now.more c.copy_part.new.room h c.min-front.ensures c.if-at-front.true c.requires
    (c.copy_part.ensures.copied ∙ ap (λ bytes. take (length c.args.room.now) (drop (c.args.at - c.min-front.result) bytes)) c.as_slice.ensures))

pub returns-in-Got-clause-right : goal.returns-in-Got-clause-right
returns-in-Got-clause-right g c =
    let told = g.B.Base.told c.read.new.self in
    let looked = subst (λ name. Holds (g.B.Base.told c.look.new.self) (λ w. LooksRight (w.nodes name) (LookedFile c.in-File.len))) c.as_str.ensures.value c.in-File.ensures.right in
    let came = subst (λ name. Holds told (λ w. ReadsAs (w.nodes name) c.args.at (GotSome c.in-Got.count) c.read.new.room)) c.as_str-2.ensures.value c.in-Got.ensures.asks.right in
    holds_both _ _ _ told (follows _ (g.B.Base.told c.look.new.self) told c.in-Got.ensures.asks.stays looked) came
    (λ w h r. reads_front _ w.moment c.in-File.len c.args.grown.now.kept c.min-front.result c.args.at c.in-Got.count c.capped.result c.args.grown.now.more c.read.new.room h c.min-front.ensures c.if-at-front.false
    (omega (arith, c.read.auto.room, c.in-Got.ensures.within)) c.capped.ensures r)
