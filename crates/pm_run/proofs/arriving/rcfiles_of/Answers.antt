use Rattle.std.proofs.Common.{◌∙◌, reverse, sym, ap, rules}
use Rattle.std.proofs.lemmas.List.{at_drop_all, reverse-reverse}
use Rattle.pm_meaning.specs.Running.{named_rcfile}
use Rattle.pm_meaning.proofs.Choices.{ok_map}
use Rattle.pm_meaning.proofs.Sequences.{front_of_rest}
use Rattle.pm_run.proofs.ArriveLemmas.{rcfile_implied, rcfiles_named, words_named, word_named}
use Rattle.pm_run.proofs.arriving.rcfiles_of.Goals as goal

pub returns-then-is_without : goal.returns-then-is_without
returns-then-is_without c =
    ok_map c.own_rcfile.result _ _ (λ names h. rcfile_implied c.args.line.now c.args.home.now (reverse names.items) (sym c.is_without.ensures ∙ c.if-is_without.true) (ap reverse h)) c.own_rcfile.ensures

pub loop-word-preserved : goal.loop-word-preserved
loop-word-preserved c =
    let i = c.loop-word.word-index in
    (c.loop-word.invariant.0, word_named c.loop-word.names.items _ _ _ _ c.word-item.result (named_rcfile c.args.line.now.filter c.args.home.now) i (front_of_rest _ _ _ _ c.word-item.is c.loop-word-test.true) c.in_ok-named_rcfile.ensures (search rules) c.loop-word.invariant.1)

pub returns : goal.returns
returns c =
    let i = c.loop-word.word-index in
    let f = named_rcfile c.args.line.now.filter c.args.home.now in
    ap reverse c.reverse.ensures.items ∙ reverse-reverse c.loop-word.names.items ∙
    rcfiles_named c.args.line.now c.args.home.now c.loop-word.names.items (sym c.is_without.ensures ∙ c.if-is_without.false) (words_named c.loop-word.names.items _ c.args.line.now.rcfiles f i (at_drop_all (λ l. l) _ i c.loop-word-test.false) c.loop-word.invariant.1)
