use Rattle.std.proofs.Common.{◌<◌, length, drop, refl, sym, lit<, arith, length-drop}
use Rattle.pm_regex.proofs.ExpandLemmas.{rest_is}
use Rattle.pm_regex.proofs.TokenLemmas.{begins_some, edge_there, line_start_there}
use Rattle.pm_regex.proofs.sign.caret_at.Goals as goal

pub returns-then-begins_with : goal.returns-then-begins_with
returns-then-begins_with c =
    let text = c.args.text.now in
    let some : 0 < length (drop 1 text) = rw rest_is at (c.if-begins_with.ensures.within refl) in
    record {
      some = lit< tt;
      within = omega (arith, length-drop 1 text, some);
      token = edge_there text c.requires (sym (rw rest_is at c.if-begins_with.ensures.value));
    }

pub returns : goal.returns
returns c =
    let text = c.args.text.now in
    record {
      some = lit< tt;
      within = begins_some 94 text c.requires;
      token = line_start_there text c.requires (sym (rw rest_is at c.if-begins_with.ensures.value));
    }
