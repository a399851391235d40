use Rattle.pm_perform.proofs.filing.file_copy_of.Goals as goal

pub returns-clause-copy : goal.returns-clause-copy
returns-clause-copy c = rw c.file_piece.ensures.same at c.file_copy_with.ensures
