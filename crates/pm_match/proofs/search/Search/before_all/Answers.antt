use Rattle.std.proofs.Common.{◌≤◌, ◌<◌, ◌⊎◌, ⊎_elim, arith}
use Rattle.pm_match.proofs.MarkLemmas.{match_out}
use Rattle.pm_match.proofs.search.Search.before_all.Goals as goal

pub returns-in-Some-clause-none : goal.returns-in-Some-clause-none
returns-in-Some-clause-none c = λ l r fold h s k j m.
    let choice : (c.least_start.result ≤ s) ⊎ (s < c.least_start.result) = grind arith in
    ⊎_elim
    (λ e. e)
    (λ less. absurd (c.least_start.ensures.none s less (match_out c.args.self.now.automata.left l fold c.args.area.now s k h.left m.left)))
    choice
