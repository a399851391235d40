use Rattle.std.proofs.Common.{◌≡◌, ◌+◌, ◌<◌, ap, sym, ◌∙◌, arith, length, subst, rules}
use Rattle.pm_recipe.specs.Spans.{span_of, newlines}
use Rattle.pm_recipe.specs.Front.{front_in}
use Rattle.pm_recipe.proofs.Steps.{suits-after}
use Rattle.pm_recipe.specs.Build.{ahead_of}
use Rattle.pm_recipe.specs.Builder.{whole, built_of}
use Rattle.pm_recipe.specs.Ends.{blocks_after, no_blocks}
use Rattle.pm_recipe.specs.Opens.{Knows}
use Rattle.pm_recipe.proofs.Left.{left-self, left-on, before-size}
use Rattle.pm_recipe.proofs.Pieces.{items_at, turned, leaves}
use Rattle.pm_recipe.proofs.OpenWords.{knows-left, knows-none}
use Rattle.pm_recipe.proofs.reader.read_statements.Goals as goal

pub front_at-front-requires-clause-knows : goal.front_at-front-requires-clause-knows
front_at-front-requires-clause-knows c =
    subst (λ ks. Knows ks c.loop-rest.rest.now) (sym c.deref.ensures.value)
    (knows-left c.loop-rest.known.items c.loop-rest.rest.now c.args.bytes.now c.loop-rest.invariant.left c.loop-rest.invariant.knows)

pub text_before-requires : goal.text_before-requires
text_before-requires c =
    let some : 0 < length c.loop-rest.rest.now = search rules in
    let l = leaves c.loop-rest.situation c.loop-rest.rest.now (front_in c.front_at-front.result) some c.front_at-front.ensures.front in
    omega (arith, l.1)

pub loop-rest-smaller : goal.loop-rest-smaller
loop-rest-smaller c =
    let some : 0 < length c.loop-rest.rest.now = search rules in
    let l = leaves c.loop-rest.situation c.loop-rest.rest.now (front_in c.front_at-front.result) some c.front_at-front.ensures.front in
    omega (arith, l.1)

pub loop-rest-preserved : goal.loop-rest-preserved
loop-rest-preserved c =
    let rest = c.loop-rest.rest.now in
    let front = front_in c.front_at-front.result in
    let situation = c.situation_behind-situation.result in
    let some : 0 < length rest = search rules in
    let l = leaves c.loop-rest.situation rest front some c.front_at-front.ensures.front in
    let old = c.loop-rest.invariant.goes_on in
    let blocks = blocks_after front.kind c.loop-rest.line old.0 in
    let size : length c.text_before.result.now + length front.behind ≡ length rest =
    ap (λ xs. length xs + length front.behind) c.text_before.ensures ∙ before-size front.behind rest l.0 in
    record {
      knows = c.in_ok-learn.ensures;
      left = left-on front.behind rest c.args.bytes.now l.0 c.loop-rest.invariant.left;
      line = omega (arith, c.newlines_in-line.ensures.within, size, c.loop-rest.invariant.line);
      depth = omega (arith, c.situation_behind-situation.ensures.bound, l.1, c.loop-rest.invariant.depth);
      suits = rw c.situation_behind-situation.ensures.after
          (suits-after _ _ (span_of front c.loop-rest.line) front.kind c.loop-rest.situation c.in_ok-take_span.ensures c.loop-rest.invariant.suits);
      goes_on = (
        blocks,
        rw c.situation_behind-situation.ensures.after (c.unended_after-unended.ensures old.0 old.1),
        c.in_ok-take_span.ensures.built (ahead_of (items_at (c.loop-rest.line + c.newlines_in-line.result) situation blocks front.behind))
            ∙ ap (λ is. whole (built_of c.loop-rest.builder) is) (sym (turned c.loop-rest.line c.loop-rest.situation old.0 rest front _ _
            some c.front_at-front.ensures.front
            (ap (λ n. c.loop-rest.line + n) (c.newlines_in-line.ensures.count ∙ ap newlines c.text_before.ensures))
            c.situation_behind-situation.ensures.after))
            ∙ old.2,
      );
    }

pub loop-rest-init : goal.loop-rest-init
loop-rest-init c = record {
  knows = knows-none c.new-known.result.items c.args.bytes.now c.new-known.ensures.items;
  left = left-self c.args.bytes.now;
  line = omega arith;
  depth = rw c.statements_in-situation.ensures (omega arith);
  suits = search rules;
  goes_on = (no_blocks, rw c.statements_in-situation.ensures c.none_unended-unended.ensures, search rules);
}
