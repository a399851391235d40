use Rattle.std.proofs.Common.{rules, ◌≡◌, ◌≤◌, ◌+◌, length, All, sum_by, sym, ap, ◌∙◌, subst, arith, vec_len, vec_capacity}
use Rattle.pm_turns.specs.Room.{IsWorkable, left_of, waits_of}
use Rattle.pm_turns.proofs.Begun.{all_begun, left_begun, waits_begun}
use Rattle.pm_turns.proofs.turns.Turns.new.Goals as goal

pub invariant_of-result : goal.invariant_of-result
invariant_of-result c =
    let ws = c.args.writers.items in let items = c.in_ok-begun.ensures.items in record {
      sound = subst (All IsWorkable) (sym items) (all_begun ws);
      room =
          let e : sum_by left_of c.in_ok-begun.begun.items ≡ c.in_ok-room.room = ap (sum_by left_of) items ∙ left_begun ws ∙ search rules in
          let m = c.in_ok-mailbox.ensures.room in omega (arith, e, m);
      places =
          let e : sum_by waits_of c.in_ok-begun.begun.items ≡ length ws = ap (sum_by waits_of) items ∙ waits_begun ws in
          let l : vec_len c.in_ok-order.order + length ws ≤ vec_capacity c.in_ok-order.order = search rules in omega (arith, e, l);
    }
