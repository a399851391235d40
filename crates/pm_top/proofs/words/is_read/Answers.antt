use Rattle.std.proofs.Common.{refl}
use Rattle.pm_top.specs.Words.{no_words}
use Rattle.pm_top.proofs.words.is_read.Goals as goal

pub loop-word-init : goal.loop-word-init
loop-word-init c = (no_words, refl, refl)
