use Rattle.std.proofs.Common.{◌≡◌, None, [], ◌∷◌, ◌++◌, arith, ap, ◌∙◌}
use Rattle.std.proofs.lemmas.Grind.{common_steps}
use Rattle.lockfile_top.specs.declared.tasks.Task.TheVariants.{Take, Give}
use Rattle.lockfile_top.proofs.WordLemmas.{reads_takes, reads_mailbox, reads_gives}
use Rattle.lockfile_top.proofs.JobLemmas.{all_fit}
use Rattle.lockfile_top.proofs.words.read_word.Goals as goal

pub returns-in_ok-push_back-in-Takes-clause-reads : goal.returns-in_ok-push_back-in-Takes-clause-reads
returns-in_ok-push_back-in-Takes-clause-reads c =
    let none : c.args.reading.now.waiting ≡ None = grind (arith, common_steps) in
    let more : c.push_back.new.self.items ≡ c.args.reading.now.tasks.items ++ Take c.args.word.now c.args.reading.now.rule ∷ [] = grind (arith, common_steps) in
    reads_takes _ _ _ _ _ _ none c.in-Takes.ensures.says more

pub returns-in_ok-push_back-in-Takes-clause-tasks : goal.returns-in_ok-push_back-in-Takes-clause-tasks
returns-in_ok-push_back-in-Takes-clause-tasks c = all_fit _ _ _ c.in_ok-push_back-in-Takes.ensures.items c.requires.tasks c.requires.rule

pub returns-in_ok-push_back-in-TakesMailbox-clause-reads : goal.returns-in_ok-push_back-in-TakesMailbox-clause-reads
returns-in_ok-push_back-in-TakesMailbox-clause-reads c =
    let none : c.args.reading.now.waiting ≡ None = grind (arith, common_steps) in
    let more = c.in_ok-push_back-in-TakesMailbox.ensures.items ∙ ap (λ n. c.args.reading.now.tasks.items ++ Take n c.args.reading.now.rule ∷ []) c.in_ok-name-in-TakesMailbox.ensures in
    reads_mailbox _ c.args.word.now c.args.reading.now.rule _ _ _ none c.in-TakesMailbox.ensures.says more

pub returns-in_ok-push_back-in-TakesMailbox-clause-tasks : goal.returns-in_ok-push_back-in-TakesMailbox-clause-tasks
returns-in_ok-push_back-in-TakesMailbox-clause-tasks c = all_fit _ _ _ c.in_ok-push_back-in-TakesMailbox.ensures.items c.requires.tasks c.requires.rule

pub returns-in_ok-push_back-in-GivesMailbox-clause-reads : goal.returns-in_ok-push_back-in-GivesMailbox-clause-reads
returns-in_ok-push_back-in-GivesMailbox-clause-reads c =
    let none : c.args.reading.now.waiting ≡ None = grind (arith, common_steps) in
    let more = c.in_ok-push_back-in-GivesMailbox.ensures.items ∙ ap (λ n. c.args.reading.now.tasks.items ++ Give n ∷ []) c.in_ok-name-in-GivesMailbox.ensures in
    reads_gives _ c.args.word.now c.args.reading.now.rule _ _ _ none c.in-GivesMailbox.ensures.says more

pub returns-in_ok-push_back-in-GivesMailbox-clause-tasks : goal.returns-in_ok-push_back-in-GivesMailbox-clause-tasks
returns-in_ok-push_back-in-GivesMailbox-clause-tasks c = all_fit _ _ _ c.in_ok-push_back-in-GivesMailbox.ensures.items c.requires.tasks tt
