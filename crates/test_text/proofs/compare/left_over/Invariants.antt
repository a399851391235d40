use Rattle.std.proofs.Common.{◌≡◌, ◌++◌, length}
use Rattle.test_text.specs.Bags.{left_over}
use Rattle.test_text.proofs.compare.left_over.Given as goal

-- what is left over of the names so far, and of the rest
abbrev pub invariant-loop-name : goal.invariant-loop-name
invariant-loop-name l = l.over.items ++ left_over l.left l.others ≡ left_over l.fn.names l.others

abbrev pub decreases-loop-name : goal.decreases-loop-name
decreases-loop-name l = length l.left
