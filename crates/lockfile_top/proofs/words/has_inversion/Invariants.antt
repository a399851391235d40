use Rattle.std.proofs.Common.{◌≡◌, drop}
use Rattle.lockfile_top.specs.Words.{all_bytes, is_inverted}
use Rattle.lockfile_top.proofs.words.has_inversion.Given as goal

abbrev pub invariant-loop-word : goal.invariant-loop-word
invariant-loop-word l = is_inverted (all_bytes (drop l.word-index l.words)) ≡ is_inverted (all_bytes l.words)
