use Rattle.pm_match.proofs.backward.sweep_both.Goals as goal

pub returns-clause-sound : goal.returns-clause-sound
returns-clause-sound c = λ exit behind out.
    c.sweep_up.ensures.sound exit behind (c.sweep_listed.ensures.sound exit behind out)
