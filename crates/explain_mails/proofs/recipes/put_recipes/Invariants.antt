use Rattle.std.proofs.Common.{◌≡◌, ◌≤◌, ◌++◌, drop, false}
use Rattle.explain_mails.specs.Recipes.{recipes_from}
use Rattle.explain_mails.proofs.recipes.put_recipes.Given as goal

-- what was written, and what comes after it; there are no more steps than things that are shown
abbrev pub invariant-loop-one : goal.invariant-loop-one
invariant-loop-one l = record {
  before : l.writer.before ≡ l.fn.writer.before;
  tokens : l.writer.tokens ++ recipes_from l.is_open l.steps (drop l.one-index l.shown) ≡ l.fn.writer.tokens ++ recipes_from false 0 l.shown;
  few : l.steps ≤ l.one-index;
}
