use Rattle.std.proofs.Common.{◌≡◌, None, ap, ◌∙◌, sym, subst}
use Rattle.std.proofs.Math.Nat.{max_comm}
use Rattle.std.specs.Prelude.{is_some, max}
use Rattle.pm_regex.specs.Found.{IsCount}
use Rattle.pm_regex.proofs.FoundOrNot.{found_of}
use Rattle.pm_regex.proofs.CountOf.{count_of}
use Rattle.pm_meaning.specs.declared.question.Outcome.TheVariants.{Counted}
use Rattle.pm_meaning.specs.Weighing
use Rattle.pm_conds.proofs.WeighLemmas.{none_counts, inverted_counts, some_counts, count_is}
use Rattle.pm_conds.proofs.counting.counted.Goals as goal

pub returns-then-not-is_found : goal.returns-then-not-is_found
returns-then-not-is_found c =
    let area = c.args.area.now in
    let fold = c.args.engine.now.fold in
    let e = c.args.expr.now in
    ap (λ n. Counted c.args.weight n None) c.matches_of_none.ensures
    ∙ none_counts c.args.weight c.args.inverted area (found_of fold e area).0 (count_of fold e area).0
    (sym (c.is_found.ensures.found ∙ ap (λ w. is_some (found_of fold w area).0) c.requires) ∙ c.if-not-is_found.true)

pub returns-then-inverted : goal.returns-then-inverted
returns-then-inverted c =
    let area = c.args.area.now in
    let fold = c.args.engine.now.fold in
    let e = c.args.expr.now in
    inverted_counts c.args.weight area (found_of fold e area).0 (count_of fold e area).0
    (sym (c.is_found.ensures.found ∙ ap (λ w. is_some (found_of fold w area).0) c.requires) ∙ c.if-not-is_found.false)
    ∙ ap (λ i. Weighing.counted_outcome c.args.weight i area (found_of fold e area).0 (count_of fold e area).0) (sym c.if-inverted.true)

pub returns : goal.returns
returns c =
    let area = c.args.area.now in
    let fold = c.args.engine.now.fold in
    let e = c.args.expr.now in
    let engine : c.reserve.new.self ≡ c.args.engine.now = c.reserve.ensures.same ∙ c.match_of.ensures.same ∙ c.is_found.ensures.same in
    let counted = subst (λ w. IsCount fold w area c.count.result) c.requires (subst (λ a. IsCount a.fold a.expr area c.count.result) engine c.count.ensures.counted) in
    ap (λ n. Counted c.args.weight n c.in_ok-bytes.bytes) (c.max.ensures ∙ max_comm c.count.result 1 ∙ ap (λ n. max 1 n) (count_is fold e area c.count.result counted))
    ∙ some_counts c.args.weight area (found_of fold e area).0 (count_of fold e area).0 c.in_ok-bytes.bytes
    (sym (c.is_found.ensures.found ∙ ap (λ w. is_some (found_of fold w area).0) c.requires) ∙ c.if-not-is_found.false)
    (λ f is. c.in_ok-bytes.ensures.bytes f (ap (λ a. (found_of a.fold e area).0) c.is_found.ensures.same ∙ is))
    ∙ ap (λ i. Weighing.counted_outcome c.args.weight i area (found_of fold e area).0 (count_of fold e area).0) (sym c.if-inverted.false)
