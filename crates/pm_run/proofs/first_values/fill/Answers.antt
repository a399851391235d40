use Rattle.pm_meaning.proofs.Choices.{ok_map}
use Rattle.pm_run.proofs.FirstValueLemmas.{table_filled}
use Rattle.pm_run.proofs.first_values.fill.Goals as goal

pub returns : goal.returns
returns c =
    ok_map c.set_files.result _ _ (λ _ files. table_filled c.args.line.now.filter c.args.line.now.arguments c.args.env.now _ _ _ _ _ _ _ _ c.requires.empty c.in_ok-add_arguments.ensures c.in_ok-set_user.ensures
    c.in_ok-set_time_zone.ensures c.in_ok-set_place.ensures c.in_ok-set_mailbox.ensures c.in_ok-set_programs.ensures files) c.set_files.ensures
