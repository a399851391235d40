use Rattle.std.proofs.Common.{sym, ap, ◌∙◌}
use Rattle.pm_meaning.specs.Minds.{mind_of}
use Rattle.pm_meaning.specs.ProgramActions.{feed, fed_piece, work_of}
use Rattle.pm_perform.specs.Errands.{purpose_of}
use Rattle.pm_perform.specs.Copies.{remembered}
use Rattle.pm_perform.proofs.errands.errand_for.Goals as goal

pub returns-in_ok-kept-in-Delivers : goal.returns-in_ok-kept-in-Delivers
returns-in_ok-kept-in-Delivers c =
    let flags = c.args.task.now.flags in
    let folder = c.in-Delivers.folder.now in (
      folder,
      c.in_ok-kept-in-Delivers.ensures ∙ ap (λ size. remembered folder size) c.len.ensures,
      ap (λ purpose. work_of (purpose_of purpose) flags (fed_piece flags (mind_of c.args.process.now)) c.args.command) c.in-Delivers.is
          ∙ ap (λ bytes. feed flags folder c.args.command bytes) (sym c.in_ok-input.ensures),
    )
