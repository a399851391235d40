use Rattle.std.proofs.Common.{arith}
use Rattle.pm_match.proofs.EngineLemmas.{bounds_of}
use Rattle.pm_match.proofs.search.Search.of.Goals as goal

pub returns : goal.returns
returns c = λ l r a b.
    let left = bounds_of c.in_ok-left.left l c.args.fold c.in_ok-left.ensures.exit (c.in_ok-left.ensures.built l a) in
    let right = bounds_of c.in_ok-right.right r c.args.fold c.in_ok-right.ensures.exit (c.in_ok-right.ensures.built r b) in
    record {
      whole = record {
        starts = tt;
        left_range = c.in_ok-left.ensures.range;
        left_entry = left.0;
        left_exit = left.1;
        right_range = c.in_ok-right.ensures.range;
        right_entry = right.0;
        right_exit = right.1;
      };
      room = record {
        left = omega (arith, c.in_ok-left_labels.ensures.len, c.len.ensures, c.in_ok-left.left.steps.ok.0);
        left_next = omega (arith, c.in_ok-left_next.ensures.len, c.len-2.ensures, c.in_ok-left.left.steps.ok.0);
        right = omega (arith, c.in_ok-right_labels.ensures.len, c.len-3.ensures, c.in_ok-right.right.steps.ok.0);
        right_next = omega (arith, c.in_ok-right_next.ensures.len, c.len-4.ensures, c.in_ok-right.right.steps.ok.0);
      };
      marks = tt;
      cache = tt;
      anywhere = tt;
      left = record { stop = c.in_ok-left.ensures.exit; built = c.in_ok-left.ensures.built l a };
      right = record { stop = c.in_ok-right.ensures.exit; built = c.in_ok-right.ensures.built r b };
    }
