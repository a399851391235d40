use Rattle.std.proofs.Common.{false, sym, ◌∙◌, subst, arith}
use Rattle.pm_match.specs.Cache.{AreSets}
use Rattle.pm_match.proofs.MarkLemmas.{sets_push}
use Rattle.pm_match.proofs.marks.make_marks.Goals as goal

pub loop-preserved : goal.loop-preserved
loop-preserved c = record {
  sets = subst (λ xs. AreSets c.args.size xs) (sym c.in_ok-push.ensures.items)
      (sets_push c.args.size c.loop.checkpoints.items (record { set = c.in_ok-set-2.set }) c.loop.invariant.sets c.in_ok-set-2.ensures.len);
  many = omega (arith, c.in_ok-push.ensures.len, c.loop.invariant.many);
}

pub returns-clause-room : goal.returns-clause-room
returns-clause-room c = λ p entry exit len. record {
  set = c.in_ok-set.ensures.len ∙ sym len;
  window = c.in_ok-window.ensures.len ∙ c.window_of.ensures;
  checkpoints = subst (λ n. AreSets n c.loop.checkpoints.items) (sym len) c.loop.invariant.sets;
  many = omega (arith, c.loop.invariant.many, c.loop-test.false, c.loop.auto.counter-end);
  cache = c.in_ok-cache.ensures false p exit len;
  forward = c.in_ok-forward.ensures p entry len;
}
