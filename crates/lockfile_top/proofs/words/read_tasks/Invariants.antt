use Rattle.std.proofs.Common.{◌≡◌, None, drop}
use Rattle.lockfile_top.specs.Words.{mailbox_lock, first_rule, tasks_in, all_bytes, asked}
use Rattle.lockfile_top.specs.Jobs.{IsFit, AllFit}
use Rattle.lockfile_top.proofs.words.read_tasks.Given as goal

abbrev pub invariant-loop-word : goal.invariant-loop-word
invariant-loop-word l = record {
  reads : asked (mailbox_lock l.env) l.reading.rule l.reading.waiting l.reading.tasks.items (all_bytes (drop l.word-index l.words)) ≡ tasks_in (mailbox_lock l.env) first_rule None (all_bytes l.words);
  rule : IsFit l.reading.rule;
  tasks : AllFit l.reading.tasks.items;
}
