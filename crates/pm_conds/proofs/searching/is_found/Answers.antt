use Rattle.pm_conds.proofs.SearchLemmas.{is_match_is}
use Rattle.pm_conds.proofs.searching.is_found.Goals as goal

pub returns-clause-found : goal.returns-clause-found
returns-clause-found c = is_match_is c.args.engine.now.fold c.args.engine.now.expr c.args.area.now c.is_match.result c.is_match.ensures.some c.is_match.ensures.none
