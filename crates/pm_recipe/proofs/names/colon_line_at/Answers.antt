use Rattle.std.proofs.Common.{sym, subst}
use Rattle.pm_recipe.specs.Opens.{Knows}
use Rattle.pm_recipe.proofs.OpenWords.{knows-lock}
use Rattle.pm_recipe.proofs.names.colon_line_at.Goals as goal

pub leaves_quote-requires : goal.leaves_quote-requires
leaves_quote-requires c =
    subst (λ xs. Knows c.args.known.now xs) (sym c.from_lock.ensures.text) (knows-lock c.args.known.now c.args.text.now c.requires.knows)
