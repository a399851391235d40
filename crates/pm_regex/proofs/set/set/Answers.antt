use Rattle.std.proofs.Common.{◌≡◌, ◌<◌, ◌≤◌, true, false, length, drop, refl, sym, arith, length-drop}
use Rattle.pm_regex.specs.Tokens.{begins_with}
use Rattle.pm_regex.proofs.ExpandLemmas.{rest_is}
use Rattle.pm_regex.proofs.TokenLemmas.{begins_some, negated_set, plain_set}
use Rattle.pm_regex.proofs.set.set.Goals as goal

pub returns-then-begins_with-clause-ok : goal.returns-then-begins_with-clause-ok
returns-then-begins_with-clause-ok c =
    let text = c.args.text.now in
    let is : begins_with 94 (drop 1 text) ≡ true = sym (rw rest_is at c.if-begins_with.ensures.value) in
    let some : 0 < length (drop 1 text) = rw rest_is at (c.if-begins_with.ensures.within refl) in
    let two : 2 ≤ length text = omega (arith, length-drop 1 text, some) in
    negated_set text _ _ _ _ c.requires is two c.in_ok-push.ensures.items (rw rest_is at c.in_ok-length.ensures.ok)

pub returns-clause-ok : goal.returns-clause-ok
returns-clause-ok c =
    let text = c.args.text.now in
    let is : begins_with 94 (drop 1 text) ≡ false = sym (rw rest_is at c.if-begins_with.ensures.value) in
    plain_set text _ _ _ _ c.requires is (begins_some 91 text c.requires) c.in_ok-push-2.ensures.items (rw rest_is at c.in_ok-length-2.ensures.ok)
