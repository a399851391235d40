use Rattle.std.proofs.Common.{◌≡◌, ◌++◌, drop, flat_map}
use Rattle.explain_mails.specs.Words.{argument_words}
use Rattle.explain_mails.proofs.words.push_arguments.Given as goal

abbrev pub invariant-loop-argument : goal.invariant-loop-argument
invariant-loop-argument l = l.words.items ++ flat_map argument_words (drop l.argument-index l.arguments) ≡ l.fn.words.items ++ flat_map argument_words l.arguments
