use Rattle.std.proofs.Common.{◌≡◌, ◌<◌, ◌+◌, true, false, Some, List, ℕ, ◌∷◌, length, drop, get_or, sym, ap, ◌∙◌}
use Rattle.std.specs.Prelude.{bytes_eq, if◌then◌else◌}
use Rattle.std.proofs.lemmas.List.{at_drop_more}
use Rattle.pm_bytes.specs.declared.environment.Pair.{Pair}
use Rattle.pm_start.specs.Login.{value_in}
use Rattle.pm_start.proofs.user.value_in_environment.Goals as goal

found_first : (name : List ℕ) (pair : Pair) (left rest : List Pair) → left ≡ pair ∷ rest → bytes_eq name pair.name ≡ true → value_in left name ≡ Some pair.value
found_first name pair left rest e h = ap (λ l. value_in l name) e ∙ ap (λ b. if b then Some pair.value else value_in rest name) h

missed_first : (name : List ℕ) (pair : Pair) (left rest : List Pair) → left ≡ pair ∷ rest → bytes_eq name pair.name ≡ false → value_in left name ≡ value_in rest name
missed_first name pair left rest e h = ap (λ l. value_in l name) e ∙ ap (λ b. if b then Some pair.value else value_in rest name) h

-- the first of what is left
front : (items : List Pair) (i : ℕ) (d item : Pair) → item ≡ get_or items i d → i < length items → drop i items ≡ item ∷ drop (i + 1) items
front items i d item is more = at_drop_more (λ l. l) items i d more ∙ ap (λ x. x ∷ drop (i + 1) items) (sym is)

pub returns-then-eq : goal.returns-then-eq
returns-then-eq c =
    sym (found_first c.args.name.now c.pair-item.result _ _ (front _ _ _ _ c.pair-item.is c.loop-pair-test.true) (ap (bytes_eq c.args.name.now) (sym (c.as_bytes.ensures.value ∙ c.as_str.ensures.same)) ∙ sym c.eq.ensures ∙ c.if-eq.true)) ∙ c.loop-pair.invariant.1

pub loop-pair-preserved : goal.loop-pair-preserved
loop-pair-preserved c =
    (c.loop-pair.invariant.0, sym (missed_first c.args.name.now c.pair-item.result _ _ (front _ _ _ _ c.pair-item.is c.loop-pair-test.true) (ap (bytes_eq c.args.name.now) (sym (c.as_bytes.ensures.value ∙ c.as_str.ensures.same)) ∙ sym c.eq.ensures ∙ c.if-eq.false)) ∙ c.loop-pair.invariant.1)
