use Rattle.std.proofs.Common.{◌≡◌, ◌+◌, ◌*◌, sym, ◌∙◌, subst, arith}
use Rattle.std.proofs.lemmas.Option.{slice_get_read}
use Rattle.pm_match.specs.Backward.{IsExitSet}
use Rattle.pm_match.proofs.marks.set_after_window.Goals as goal

pub returns-then-area-low-gt-WINDOW-clause-back : goal.returns-then-area-low-gt-WINDOW-clause-back
returns-then-area-low-gt-WINDOW-clause-back c =
    let p = c.args.program.now.steps.items in
    let area = c.args.area.now in
    let exit = c.args.program.now.exit in
    let checkpoints = c.args.marks.now.checkpoints in
    let is = slice_get_read checkpoints.items _ _ _ checkpoints.ok.0 (omega (arith, c.requires.room.many, c.requires.short, c.if-area-low-gt-WINDOW.true)) c.index.ensures in
    let b = c.requires.kept (c.args.index + 1) c.index.result.now (omega arith) (omega (arith, c.if-area-low-gt-WINDOW.true)) is in
    let place : (c.args.index + 1) * 65536 ≡ c.args.index * 65536 + 65536 = omega arith in
    subst (λ k. IsExitSet p area exit k c.copy_set.new.to.items) place
    (subst (λ xs. IsExitSet p area exit ((c.args.index + 1) * 65536) xs) (sym (c.copy_set.ensures.same ∙ c.deref.ensures.value)) b)
