use Rattle.std.proofs.Common.{◌≡◌, ◌++◌, ◌≤◌, length}
use Rattle.pm_message.specs.Piece.{escaped}
use Rattle.pm_message.proofs.EscapeLemmas.{rest_escaped}
use Rattle.pm_message.proofs.pieces.with_escaped.Given as goal

abbrev pub invariant-loop-place : goal.invariant-loop-place
invariant-loop-place l = (l.text ++ rest_escaped l.rest ≡ l.fn.text ++ escaped l.fn.lines) × (length l.rest ≤ length l.fn.lines)

abbrev pub decreases-loop-place : goal.decreases-loop-place
decreases-loop-place l = length l.rest
