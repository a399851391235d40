use Rattle.pm_top.specs.Words.{command_line}
use Rattle.pm_top.specs.Reading.{line_of}
use Rattle.pm_top.proofs.WordLemmas.{word_stops}
use Rattle.pm_top.proofs.words.make_line.Goals as goal

pub returns-in_default : goal.returns-in_default
returns-in_default c =
    let says = rw c.as_str.ensures.value at c.in_default.ensures.says in
    word_stops c.args.words.now c.loop-word.word-index c.word-item.result c.word-item.result c.loop-word.place (line_of c.loop-word.lists) (command_line c.args.words.now) c.word-item.is c.loop-word-test.true c.loop-word.invariant.named says c.loop-word.invariant.reads
