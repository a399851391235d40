use Rattle.std.proofs.Common.{◌+◌, vec_len, sym, ◌∙◌, ap, subst}
use Rattle.pm_match.specs.Labels.{Below, IsClosed}
use Rattle.pm_match.proofs.advancing.go_to_next.Goals as goal

pub returns-then-is_empty-clause-sound : goal.returns-then-is_empty-clause-sound
returns-then-is_empty-clause-sound c = λ r v b. absurd (c.is_empty.ensures c.if-is_empty.true r v b)

pub returns-then-is_empty-clause-reached : goal.returns-then-is_empty-clause-reached
returns-then-is_empty-clause-reached c = λ q r v e b. absurd (c.is_empty.ensures c.if-is_empty.true q v b)

pub returns-then-is_empty-clause-closed : goal.returns-then-is_empty-clause-closed
returns-then-is_empty-clause-closed c = λ q r v e b. absurd (c.is_empty.ensures c.if-is_empty.true q v b)

pub returns-clause-sound : goal.returns-clause-sound
returns-clause-sound c = λ r v b. c.advance.ensures.sound r v (subst (λ l. Below l.of.items r v) c.swap.ensures.x_after b)

pub returns-clause-reached : goal.returns-clause-reached
returns-clause-reached c = λ q r v e b.
    subst (λ l. Below l.of.items r v) (sym c.swap.ensures.x_after) (c.advance.ensures.reached q r v e b)

pub returns-clause-len : goal.returns-clause-len
returns-clause-len c =
    ap (λ l. vec_len l.of) c.swap.ensures.x_after ∙ c.advance.ensures.len ∙ c.requires.same_next ∙ sym c.requires.same_len

pub returns-clause-len_next : goal.returns-clause-len_next
returns-clause-len_next c = ap (λ l. vec_len l.of) c.swap.ensures.y_after ∙ c.requires.same_len ∙ sym c.requires.same_next

pub returns-clause-closed : goal.returns-clause-closed
returns-clause-closed c =
    subst (λ l. IsClosed c.args.steps.now c.args.area.now (c.args.place + 1) l.of.items) (sym c.swap.ensures.x_after) c.advance.ensures.closed
