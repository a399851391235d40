use Rattle.std.proofs.Common.{[], false, refl, ◌∙◌}
use Rattle.pm_recipe.proofs.quotes.opens_quote.Goals as goal

pub returns-in-Some : goal.returns-in-Some
returns-in-Some c =
    let found = c.in-Some.ensures.lookup.3 in
    found.1 false ∙ c.requires.at [] c.args.text.now refl found.0
