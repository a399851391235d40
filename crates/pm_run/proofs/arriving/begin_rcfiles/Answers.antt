use Rattle.std.proofs.Common.{List, ℕ, ◌∙◌, reverse, ap}
use Rattle.pm_journal.proofs.WantsMemory.{on_err}
use Rattle.pm_meaning.specs.FirstValues.{home_folder}
use Rattle.pm_meaning.specs.Minds.{mind_of}
use Rattle.pm_meaning.specs.Running.{home_by, rcfiles_of, sets_folder}
use Rattle.pm_meaning.specs.declared.command_line.CommandLine.{CommandLine}
use Rattle.pm_meaning.proofs.Choices.{ok_map, err_map}
use Rattle.pm_run.proofs.ArriveLemmas.{begins_opening, begins_wanting, words_want}
use Rattle.pm_run.proofs.arriving.begin_rcfiles.Goals as goal

pub returns-in_err-set_words-clause-memory : goal.returns-in_err-set_words-clause-memory
returns-in_err-set_words-clause-memory g c =
    let home = home_by c.args.line.now.values (home_folder c.args.env.now) in
    let walks = rw c.as_slice-values.ensures at c.in_err-set_words.ensures.walks in
    on_err _ _ (walks c.args.line.now home).1

pub returns-in_err-names-clause-memory : goal.returns-in_err-names-clause-memory
returns-in_err-names-clause-memory g c =
    let home = home_by c.args.line.now.values (home_folder c.args.env.now) in
    let walks = rw c.as_slice-values.ensures at c.in_ok-set_words.ensures.walks in
    on_err _ _ (words_want c.args.line.now home (mind_of c.args.run.now.process) (mind_of c.set_words.new.run.process) _ _ _ _ (λ (l : CommandLine) (h : List ℕ). (walks l h).0))

pub returns-clause-opens : goal.returns-clause-opens
returns-clause-opens g c =
    let line = c.args.line.now in
    let home = home_by line.values (home_folder c.args.env.now) in
    let walks = rw c.as_slice-values.ensures at c.in_ok-set_words.ensures.walks in
    let keeps = c.sets_folder.ensures ∙ ap sets_folder c.as_slice-values.ensures in
    let are = c.in_ok-names.ensures ∙ ap (rcfiles_of line) (c.home_by.ensures.same ∙ (ap (λ l. home_by l c.home.result.now) c.as_slice-values.ensures ∙ ap (home_by line.values) c.home.ensures.same)) in
    ok_map c.open_first.result _ _ (λ opened h. begins_opening line home (record { is_implied = c.is_without.result; keeps_folder = c.sets_folder.result }) (reverse c.in_ok-names.names.items) (mind_of c.args.run.now.process) (mind_of c.set_words.new.run.process) c.args.run.now.journal c.set_words.new.run.journal _ _
    c.is_without.ensures keeps are (λ (l : CommandLine) (h : List ℕ). (walks l h).0) opened (mind_of c.open_first.new.run.process) c.open_first.new.run.journal _ h) c.open_first.ensures.opens

pub returns-clause-memory : goal.returns-clause-memory
returns-clause-memory g c =
    let line = c.args.line.now in
    let home = home_by line.values (home_folder c.args.env.now) in
    let walks = rw c.as_slice-values.ensures at c.in_ok-set_words.ensures.walks in
    let keeps = c.sets_folder.ensures ∙ ap sets_folder c.as_slice-values.ensures in
    let are = c.in_ok-names.ensures ∙ ap (rcfiles_of line) (c.home_by.ensures.same ∙ (ap (λ l. home_by l c.home.result.now) c.as_slice-values.ensures ∙ ap (home_by line.values) c.home.ensures.same)) in
    err_map c.open_first.result _ _ (λ h. begins_wanting line home (record { is_implied = c.is_without.result; keeps_folder = c.sets_folder.result }) (reverse c.in_ok-names.names.items) (mind_of c.args.run.now.process) (mind_of c.set_words.new.run.process) c.args.run.now.journal c.set_words.new.run.journal _ _
    c.is_without.ensures keeps are (λ (l : CommandLine) (h : List ℕ). (walks l h).0) c.open_first.new.run.journal _ h) c.open_first.ensures.memory
