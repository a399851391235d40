use Rattle.std.proofs.Common.{ℕ, Bool, List, ◌≡◌, ap, drop, ◌∙◌}
use Rattle.pm_recipe.specs.Weights.{condition_of}
use Rattle.pm_recipe.specs.declared.tree.Condition.{Condition}
use Rattle.check_fix.specs.Conditions.{is_bad}
use Rattle.check_fix.proofs.conditions.has_bad_weight.Goals as goal

-- of a condition that was read
bad_read : (is : Bool) (read : Condition) (rest text : List ℕ) → rest ≡ drop 1 text → read ≡ condition_of rest
    → is ≡ is_bad read.weight → is ≡ is_bad (condition_of (drop 1 text)).weight
bad_read is read rest text e f g =
    g ∙ (ap (λ (condition : Condition). is_bad condition.weight) f
    ∙ ap (λ (part : List ℕ). is_bad (condition_of part).weight) e)

pub returns : goal.returns
returns c =
    bad_read c.is_bad.result c.in_ok-condition.condition c.past.result.now c.args.text.now c.past.ensures
    c.in_ok-condition.ensures c.is_bad.ensures
