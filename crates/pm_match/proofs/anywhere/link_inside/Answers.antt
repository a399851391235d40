use Rattle.pm_match.proofs.EdgeLemmas.{read_byte}
use Rattle.pm_match.proofs.anywhere.link_inside.Goals as goal

pub returns-then-place-area-clause-met : goal.returns-then-place-area-clause-met
returns-then-place-area-clause-met c = λ p entry exit met new.
    c.link.ensures.met p entry exit met (λ s r is_s is_r. new _ s r (read_byte c.args.area.now c.args.place c.requires.place) c.if-place-area.true is_s is_r)
