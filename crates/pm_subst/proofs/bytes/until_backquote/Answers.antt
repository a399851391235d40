use Rattle.std.proofs.Common.{◌≡◌, ◌<◌, ◌+◌, false, length, drop, drop-cons, add-one, arith, ◌∙◌, ap, sym}
use Rattle.pm_subst.specs.Bytes.{command_length}
use Rattle.pm_subst.proofs.bytes.until_backquote.Goals as goal

pub loop-i-preserved-then-escaped : goal.loop-i-preserved-then-escaped
loop-i-preserved-then-escaped c =
    let text = c.args.text.now in
    let i = c.loop-i.i in
    let h : i < length text = c.loop-i-test.true in
    let next : command_length c.loop-i.escaped (drop i text) ≡ command_length false (drop (i + 1) text) + 1 =
    rw (c.if-escaped.true, drop-cons text i 0) (ap (λ k. command_length false (drop k text) + 1) (sym (add-one i))) in
    c.loop-i.invariant ∙ omega (arith, next)
