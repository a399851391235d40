use Rattle.std.proofs.Common.{sym, subst}
use Rattle.std.specs.Prelude.{IfSome}
use Rattle.pm_match.specs.Anywhere.{IsAnywhere}
use Rattle.pm_match.proofs.search.Search.before_first.Goals as goal

pub before_all-requires : goal.before_all-requires
before_all-requires c =
    let h = c.requires in
    let left = c.args.self.now.automata.left in
    let runs = h.3 in
    (left, subst (λ a. IsAnywhere left a) (sym c.deref_mut.ensures.value) (subst (λ o. IfSome o (λ a. IsAnywhere left a.value)) c.in-Some.is runs.anywhere))

pub returns-in-Some-clause-none : goal.returns-in-Some-clause-none
returns-in-Some-clause-none c = λ l r fold h s k j m.
    let left = c.args.self.now.automata.left in
    let is = subst (λ o. IfSome o (λ a. IsAnywhere left a.value)) c.in-Some.is h.anywhere in
    let here = subst (λ a. IsAnywhere left a) (sym c.deref_mut.ensures.value) is in
    c.before_all.ensures.none left here s k m.cut_in (here.embeds.ends l fold c.args.area.now s k h.left.built m.left)
