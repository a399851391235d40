use Rattle.pm_conds.proofs.SearchLemmas.{found_is, found_within}
use Rattle.pm_conds.proofs.searching.find.Goals as goal

pub returns-clause-found : goal.returns-clause-found
returns-clause-found c = found_is c.args.engine.now.fold c.args.engine.now.expr c.args.area.now _ c.find.ensures.found

pub returns-clause-within : goal.returns-clause-within
returns-clause-within c = found_within c.args.engine.now.fold c.args.engine.now.expr c.args.area.now _ c.find.ensures.found
