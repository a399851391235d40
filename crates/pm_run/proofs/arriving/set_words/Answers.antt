use Rattle.std.proofs.Common.{◌≡◌, ◌+◌, [], List, ℕ, drop, rules}
use Rattle.std.proofs.lemmas.List.{at_drop_all}
use Rattle.pm_journal.proofs.WalkJoin.{reaches_itself}
use Rattle.pm_journal.proofs.WantsMemory.{on_err}
use Rattle.pm_meaning.specs.Minds.{mind_of}
use Rattle.pm_meaning.specs.Running.{step}
use Rattle.pm_meaning.specs.declared.command_line.CommandLine.{CommandLine}
use Rattle.pm_meaning.proofs.Sequences.{front_of_rest}
use Rattle.pm_run.proofs.ArriveLemmas.{word_set, word_wants, words_set}
use Rattle.pm_run.proofs.arriving.set_words.Goals as goal

pub loop-value-init : goal.loop-value-init
loop-value-init g c = record { reaches = λ (line : CommandLine) (home : List ℕ). reaches_itself step _ _ _ }

pub returns-in_err-set_by_word : goal.returns-in_err-set_by_word
returns-in_err-set_by_word g c = record {
  walks = (
      let words = c.args.values.now in
      let i = c.loop-value.value-index in
      λ (line : CommandLine) (home : List ℕ).
      (search rules, on_err _ _ (word_wants words (drop i words) (drop (i + 1) words) c.value-item.result (mind_of c.args.run.now.process) (mind_of c.loop-value.run.process) c.args.run.now.journal c.loop-value.run.journal c.set_by_word.new.run.journal _ _ _ (front_of_rest _ _ _ _ c.value-item.is c.loop-value-test.true) c.loop-value.invariant.reaches c.in_err-set_by_word.ensures.carries.1 line home)));
}

pub loop-value-preserved : goal.loop-value-preserved
loop-value-preserved g c =
    let words = c.args.values.now in
    let i = c.loop-value.value-index in
    record {
      reaches = word_set words (drop i words) (drop (i + 1) words) c.value-item.result _ (mind_of c.args.run.now.process) (mind_of c.loop-value.run.process) (mind_of c.set_by_word.new.run.process) c.args.run.now.journal c.loop-value.run.journal c.set_by_word.new.run.journal _ _ _ (front_of_rest _ _ _ _ c.value-item.is c.loop-value-test.true) c.loop-value.invariant.reaches c.in_ok-set_by_word.ensures.carries.0;
    }

pub returns : goal.returns
returns g c = record {
  walks = (
      let words = c.args.values.now in
      let i = c.loop-value.value-index in
      let none : drop i words ≡ [] = at_drop_all (λ l. l) words i c.loop-value-test.false in
      λ (line : CommandLine) (home : List ℕ).
      (words_set words (drop i words) (mind_of c.args.run.now.process) (mind_of c.loop-value.run.process) _ _ _ _ none c.loop-value.invariant.reaches line home, tt));
}
