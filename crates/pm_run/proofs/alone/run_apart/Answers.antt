use Rattle.pm_run.proofs.alone.run_apart.Goals as goal

pub returns : goal.returns
returns g c = record { proceeds = rw c.replace.ensures.value at c.replace_with-worked.ensures }
