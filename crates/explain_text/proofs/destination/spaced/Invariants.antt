use Rattle.std.proofs.Common.{◌≡◌, ◌++◌, drop}
use Rattle.pm_overlay.specs.Given.{spaced}
use Rattle.explain_text.proofs.destination.spaced.Given as goal

abbrev pub invariant-loop-word : goal.invariant-loop-word
invariant-loop-word l = l.text ++ spaced (drop l.word-index l.words) ≡ spaced l.words
