use Rattle.std.proofs.Common.{◌≡◌, ◌+◌, ◌<◌, ap, sym, ◌∙◌, arith, length, subst, rules}
use Rattle.pm_recipe.specs.Spans.{span_of, newlines}
use Rattle.pm_recipe.specs.Front.{front_in}
use Rattle.pm_recipe.specs.Opens.{Knows}
use Rattle.pm_recipe.proofs.Left.{left-self, left-on, before-size}
use Rattle.pm_recipe.proofs.Pieces.{leaves}
use Rattle.pm_recipe.proofs.OpenWords.{knows-left, knows-none}
use Rattle.pm_recipe.proofs.Rows.{taken-on, row-on, cut-on, cut-whole}
use Rattle.pm_recipe.proofs.spans.cut_spans.Goals as goal

pub front_at-front-requires-clause-knows : goal.front_at-front-requires-clause-knows
front_at-front-requires-clause-knows c =
    subst (λ ks. Knows ks c.loop-rest.rest.now) (sym c.deref.ensures.value)
    (knows-left c.loop-rest.known.items c.loop-rest.rest.now c.args.bytes.now c.loop-rest.invariant.left c.loop-rest.invariant.knows)

pub text_before-taken-requires : goal.text_before-taken-requires
text_before-taken-requires c =
    let some : 0 < length c.loop-rest.rest.now = search rules in
    let l = leaves c.loop-rest.situation c.loop-rest.rest.now (front_in c.front_at-front.result) some c.front_at-front.ensures.front in
    omega (arith, l.1)

pub loop-rest-smaller : goal.loop-rest-smaller
loop-rest-smaller c =
    let some : 0 < length c.loop-rest.rest.now = search rules in
    let l = leaves c.loop-rest.situation c.loop-rest.rest.now (front_in c.front_at-front.result) some c.front_at-front.ensures.front in
    omega (arith, l.1)

pub loop-rest-preserved : goal.loop-rest-preserved
loop-rest-preserved c =
    let rest = c.loop-rest.rest.now in
    let front = front_in c.front_at-front.result in
    let old = c.loop-rest.invariant in
    let some : 0 < length rest = search rules in
    let l = leaves c.loop-rest.situation rest front some c.front_at-front.ensures.front in
    let taken = c.text_before-taken.result.now in
    let size : length taken + length front.behind ≡ length rest =
    ap (λ xs. length xs + length front.behind) c.text_before-taken.ensures ∙ before-size front.behind rest l.0 in
    record {
      knows = c.in_ok-learn.ensures;
      left = left-on front.behind rest c.args.bytes.now l.0 old.left;
      line = omega (arith, c.newlines_in-line.ensures.within, size, old.line);
      depth = omega (arith, c.situation_behind-situation.ensures.bound, l.1, old.depth);
      size = omega (arith, taken-on c.loop-rest.spans.items _ _ c.in_ok-push.ensures.items, size, old.size);
      places = row-on c.loop-rest.spans.items _ _ c.in_ok-push.ensures.items old.places (omega (arith, old.size));
      goes_on = cut-on c.loop-rest.line _ c.loop-rest.situation _ rest front c.loop-rest.spans.items _ _ _ c.in_ok-push.ensures.items some
          c.front_at-front.ensures.front (ap (λ xs. record { span = span_of front c.loop-rest.line; bytes = xs }) c.text_before-taken.ensures)
          (ap (λ n. c.loop-rest.line + n) (c.newlines_in-line.ensures.count ∙ ap newlines c.text_before-taken.ensures))
          c.situation_behind-situation.ensures.after old.goes_on;
    }

pub loop-rest-init : goal.loop-rest-init
loop-rest-init c = record {
  knows = knows-none c.new-known.result.items c.args.bytes.now c.new-known.ensures.items;
  left = left-self c.args.bytes.now;
  line = omega arith;
  depth = rw c.statements_in-situation.ensures (omega arith);
  size = rw c.new-spans.ensures.items (omega arith);
  places = rw c.new-spans.ensures.items tt;
  goes_on = rw (c.new-spans.ensures.items, c.statements_in-situation.ensures) (search rules);
}

pub returns : goal.returns
returns c =
    let none : length c.loop-rest.rest.now ≡ 0 = search rules in
    record {
      cut = cut-whole c.args.bytes.now c.loop-rest.rest.now c.loop-rest.line c.loop-rest.situation c.loop-rest.spans.items none c.loop-rest.invariant.goes_on;
      places = c.loop-rest.invariant.places;
    }
