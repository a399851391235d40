use Rattle.std.proofs.Common.{◌≡◌, true, false, arith}
use Rattle.std.specs.Prelude.{is_some}
use Rattle.std.proofs.lemmas.Grind.{common_steps}
use Rattle.lockfile_top.proofs.WordLemmas.{word_on, word_stops, words_over, words_wait}
use Rattle.lockfile_top.proofs.words.read_tasks.Goals as goal

pub returns-then-not-branch-clause-tasks : goal.returns-then-not-branch-clause-tasks
returns-then-not-branch-clause-tasks c =
    let unread : c.in_ok-read_word.field-0 ≡ false = grind (arith, common_steps) in
    let reads = rw c.as_str.ensures.value at c.in_ok-read_word.ensures.reads in
    word_stops _ c.args.words.now _ _ c.word-item.result c.in_ok-read_word.field-0 _ _ _ _ _ _ _ c.word-item.is c.loop-word-test.true c.loop-word.invariant.reads reads unread

pub loop-word-preserved : goal.loop-word-preserved
loop-word-preserved c =
    let is_read : c.in_ok-read_word.field-0 ≡ true = grind (arith, common_steps) in
    let reads = rw c.as_str.ensures.value at c.in_ok-read_word.ensures.reads in
    record {
      reads = word_on _ c.args.words.now _ _ c.word-item.result c.in_ok-read_word.field-0 _ _ _ _ _ _ _ c.word-item.is c.loop-word-test.true c.loop-word.invariant.reads reads is_read;
      rule = c.in_ok-read_word.ensures.rule;
      tasks = c.in_ok-read_word.ensures.tasks;
    }

pub returns-then-is_some-clause-tasks : goal.returns-then-is_some-clause-tasks
returns-then-is_some-clause-tasks c =
    let waits : is_some c.loop-word.reading.waiting ≡ true = grind (arith, common_steps) in
    words_wait _ c.args.words.now _ _ _ _ _ c.loop-word-test.false c.loop-word.invariant.reads waits

pub returns-clause-tasks : goal.returns-clause-tasks
returns-clause-tasks c =
    let over : is_some c.loop-word.reading.waiting ≡ false = grind (arith, common_steps) in
    words_over _ c.args.words.now _ _ _ _ _ c.loop-word-test.false c.loop-word.invariant.reads over
