use Rattle.std.proofs.Common.{None, sym, subst}
use Rattle.pm_regex.specs.Re.{nothing}
use Rattle.pm_regex.specs.Found.{IsFound, without_cut}
use Rattle.pm_match.specs.Engine.{AreParts}
use Rattle.pm_match.proofs.EngineLemmas.{whole_found, whole_none, parts_kept, parts_of}
use Rattle.pm_match.proofs.engine.Engine.is_match.Goals as goal

pub invariant_of-self : goal.invariant_of-self
invariant_of-self c =
    let e = c.self.inside.expr in record {
      both = c.self.invariant.both;
      one = c.is_match.ensures.kept (without_cut e.left e.right) nothing c.self.inside.fold c.self.invariant.one;
    }

pub is_match-requires-in-Some : goal.is_match-requires-in-Some
is_match-requires-in-Some c =
    let e = c.self.inside.expr in
    parts_of c.self.inside.fold e.right c.args.area.now c.in-Some.parts e.left (subst (λ s. AreParts s e.left e.right c.self.inside.fold) c.in-Some.is c.self.invariant.both)

pub invariant_of-self-in-Some : goal.invariant_of-self-in-Some
invariant_of-self-in-Some c =
    let e = c.self.inside.expr in record {
      both = parts_kept c.self.inside.fold e.right c.args.area.now c.in-Some.parts c.is_match-in-Some.new.self e.left (λ x r. c.is_match-in-Some.ensures.kept x e.right c.self.inside.fold r)
          (subst (λ s. AreParts s e.left e.right c.self.inside.fold) c.in-Some.is c.self.invariant.both);
      one = c.self.invariant.one;
    }

pub returns-in-None-clause-some : goal.returns-in-None-clause-some
returns-in-None-clause-some c = λ t none.
    let a = c.self.inside in
    c.is_match.ensures.some t (without_cut a.expr.left a.expr.right) nothing a.fold c.self.invariant.one
    (whole_none a.fold a.expr.right c.args.area.now a.expr.left (subst (λ s. AreParts s a.expr.left a.expr.right a.fold) c.in-None.is c.self.invariant.both)
    (subst (λ g. IsFound g.fold g.expr c.args.area.now None) (sym c.self.view_is) none))

pub returns-in-None-clause-none : goal.returns-in-None-clause-none
returns-in-None-clause-none c = λ t.
    let a = c.self.inside in
    subst (λ g. IsFound g.fold g.expr c.args.area.now None) c.self.view_is
    (whole_found a.fold a.expr.right c.args.area.now a.expr.left None (subst (λ s. AreParts s a.expr.left a.expr.right a.fold) c.in-None.is c.self.invariant.both)
    (c.is_match.ensures.none t (without_cut a.expr.left a.expr.right) nothing a.fold c.self.invariant.one))
