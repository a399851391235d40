use Rattle.std.proofs.Common.{not, false, ap, ◌∙◌, sym}
use Rattle.std.specs.Prelude.{is_some}
use Rattle.pm_regex.proofs.FoundOrNot.{found_of}
use Rattle.pm_meaning.specs.Searching.{holds_if, found_outcome}
use Rattle.pm_conds.proofs.Choices.{comes_to}
use Rattle.pm_conds.proofs.SearchLemmas.{inverted_outcome, plain_outcome}
use Rattle.pm_conds.proofs.searching.sought.Goals as goal

pub returns-then-inverted : goal.returns-then-inverted
returns-then-inverted c =
    let area = c.args.area.now in
    let e = c.args.engine.now in
    c.outcome_if.ensures
    ∙ ap (λ b. holds_if (not b)) (c.is_found.ensures.found ∙ ap (λ w. is_some (found_of e.fold w area).0) c.requires)
    ∙ inverted_outcome area (found_of e.fold c.args.expr.now area).0
    ∙ ap (λ i. found_outcome i area (found_of e.fold c.args.expr.now area).0) (sym c.if-inverted.true)

pub returns-then-has_cut : goal.returns-then-has_cut
returns-then-has_cut c =
    let area = c.args.area.now in
    let e = c.args.engine.now in
    comes_to c.found_outcome.result _ _
    (ap (λ x. found_outcome false area x) (c.find-found.ensures.found ∙ ap (λ w. (found_of e.fold w area).0) c.requires)
    ∙ ap (λ i. found_outcome i area (found_of e.fold c.args.expr.now area).0) (sym c.if-inverted.false)) c.found_outcome.ensures

pub returns : goal.returns
returns c =
    let area = c.args.area.now in
    let e = c.args.engine.now in
    c.outcome_if-2.ensures
    ∙ ap holds_if (c.is_found-2.ensures.found ∙ ap (λ w. is_some (found_of e.fold w area).0) c.requires)
    ∙ plain_outcome e.fold c.args.expr.now area (sym c.has_cut.ensures ∙ c.if-has_cut.false)
    ∙ ap (λ i. found_outcome i area (found_of e.fold c.args.expr.now area).0) (sym c.if-inverted.false)
