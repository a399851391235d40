use Rattle.std.proofs.Common.{rules, sym, ◌∙◌}
use Rattle.pm_meaning.proofs.DestinationLemmas.{one_more}
use Rattle.pm_meaning.proofs.destination_words.destinations.Goals as goal

pub loop-word-preserved : goal.loop-word-preserved
loop-word-preserved c =
    one_more c.args.words.now c.loop-word.word-index c.loop-word.all.items c.push.new.self.items c.in-Some.destination c.as_slice.result.now _ (search rules) (c.as_slice.ensures ∙ c.word-item.is) c.loop-word.invariant.0 c.loop-word.invariant.1
    (sym c.in-Some.is ∙ c.in_ok-destination.ensures) (search rules)
