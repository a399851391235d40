use Rattle.pm_overlay.proofs.Steps.{free_after, file_after, look_same, still_file, is_taken}
use Rattle.pm_host.specs.declared.answers.Looked.TheVariants.{Nothing}
use Rattle.pm_overlay.proofs.tree.Tree.rename.Goals as goal

pub rename_there-requires-clause-file : goal.rename_there-requires-clause-file
rename_there-requires-clause-file g c =
    still_file _ _ c.args.from.now c.in-File.len (file_after _ _ c.args.from.now c.in-File.len c.in-File.ensures) (look_same _ _ c.args.to.now Nothing c.in-Nothing.ensures)

pub rename_there-requires-clause-free : goal.rename_there-requires-clause-free
rename_there-requires-clause-free g c = free_after _ _ c.args.to.now c.in-Nothing.ensures

pub returns-in-File-look : goal.returns-in-File-look
returns-in-File-look g c = is_taken _ _ _ c.args.from.now c.args.to.now _ _ c.in-File.ensures c.look-2.ensures c.in-File-look.is
