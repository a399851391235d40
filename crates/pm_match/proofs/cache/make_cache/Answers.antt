use Rattle.std.proofs.Common.{◌≡◌, ◌*◌, Some, sym, ◌∙◌, subst, arith}
use Rattle.std.specs.Prelude.{slice_get}
use Rattle.pm_match.specs.Cache.{AreSets}
use Rattle.pm_match.proofs.MarkLemmas.{sets_push}
use Rattle.pm_match.proofs.CacheLemmas.{no_links, replicate_get}
use Rattle.pm_match.proofs.cache.make_cache.Goals as goal

pub loop-preserved : goal.loop-preserved
loop-preserved c = record {
  sets = subst (λ xs. AreSets c.args.size xs) (sym c.in_ok-push.ensures.items)
      (sets_push c.args.size c.loop.sets.items (record { set = c.in_ok-set.set }) c.loop.invariant.sets c.in_ok-set.ensures.len);
  many = omega (arith, c.in_ok-push.ensures.len, c.loop.invariant.many);
}

pub returns : goal.returns
returns c = λ on p exit len. record {
  sets = record {
    sets = subst (λ n. AreSets n c.loop.sets.items) (sym c.in_ok-made.ensures.len) c.loop.invariant.sets;
    links = omega (arith, c.in_ok-links.ensures.len, c.loop.invariant.many, c.loop-test.false, c.loop.auto.counter-end);
    few = omega (arith, c.loop.invariant.many, c.loop.auto.counter-end, c.room_for-room.ensures.few);
    many = omega (arith, c.loop.invariant.many, c.loop-test.false, c.room_for-room.ensures.many);
    used = omega arith;
  };
  spare = omega (arith, c.loop.invariant.many, c.loop-test.false, c.room_for-room.ensures.many);
  made = c.in_ok-made.ensures.len ∙ sym len;
  links = no_links on p exit 0 c.loop.sets.items c.in_ok-links.links.items (λ k t is.
      let same = c.in_ok-links.ensures.items_if_clones_equal (λ y e. e) in
      replicate_get (c.room_for-room.result * 768) k 65535 t (subst (λ xs. slice_get xs k ≡ Some t) same is));
}
