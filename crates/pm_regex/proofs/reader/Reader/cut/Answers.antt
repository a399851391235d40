use Rattle.std.proofs.Common.{◌≡◌, None, length, refl, ◌∙◌, sym, subst, ap, arith}
use Rattle.std.proofs.lemmas.Bool.{eqb-true}
use Rattle.pm_regex.specs.Machine.{cut_here}
use Rattle.pm_regex.specs.Groups.{GroupsAre}
use Rattle.pm_regex.proofs.ReaderLemmas.{none_left, none_around, ends_alone}
use Rattle.pm_regex.proofs.reader.Reader.cut.Goals as goal

pub returns-clause-ok : goal.returns-clause-ok
returns-clause-ok c = λ st is.
    let old = c.args.self.now in
    let empty = eqb-true _ 0 (sym c.if-not-is_empty.ensures) in
    let none : length old.around.items ≡ 0 = omega (arith, empty, old.around.ok.0) in
    let outer = none_around old.around.items st.outer none is.around in
    let left = none_left old.left (λ v. v.items) st.left (sym c.if-is_some.ensures) is.left in (
      _,
      ap (λ l. cut_here st l st.outer) left ∙ ap (λ fs. cut_here st None fs) outer,
      record {
        left = rw c.replace-left.ensures.value (ends_alone c.end_branch.new.ops.items _ st.outer outer (c.in_ok-end_branch.ensures st.inner st.outer is.shows));
        shows = record { stack = rw (c.replace-left.ensures.after, c.in_ok-push.ensures.items, c.new-right.ensures.items) refl; group = c.fresh_group-self.ensures };
        around = subst (λ fs. GroupsAre old.around.items fs) outer is.around;
      },
    )
