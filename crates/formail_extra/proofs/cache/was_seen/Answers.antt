use Rattle.std.proofs.Common.{take}
use Rattle.pm_message.proofs.LineLemmas.{lines_of-lines}
use Rattle.formail_extra.proofs.cache.was_seen.Goals as goal

pub returns : goal.returns
returns c = rw (← lines_of-lines (take 2_097_152 c.args.bytes.now)) (rw c.front.ensures at c.has_line.ensures)
