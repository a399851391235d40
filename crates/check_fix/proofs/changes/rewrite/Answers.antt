use Rattle.std.proofs.Common.{rules, ◌≡◌, List, ◌∷◌, length, subst}
use Rattle.check_fix.specs.Changes.{AreApart}
use Rattle.check_fix.specs.declared.changes.Change.{Change}
use Rattle.check_fix.proofs.Apart.{written_more}
use Rattle.check_fix.proofs.changes.rewrite.Goals as goal

pub loop-change-preserved : goal.loop-change-preserved
loop-change-preserved c =
    let e : c.loop-change.rest.now ≡ c.in-Some.change.now ∷ c.in-Some.later.now = search rules in
    let apart : AreApart c.loop-change.from (length c.args.text.now) (c.in-Some.change.now ∷ c.in-Some.later.now) =
    subst (λ (rest : List Change). AreApart c.loop-change.from (length c.args.text.now) rest) e c.loop-change.invariant.apart in
    record {
      from = apart.1.0;
      apart = apart.1.1;
      written =
          written_more _ _ _ c.loop-change.from c.in-Some.change.now c.in-Some.later.now _ c.args.text.now apart e
          c.in_ok-put_change.ensures c.loop-change.invariant.written;
    }
