use Rattle.std.proofs.Common.{◌≡◌, ◌<◌, ◌+◌, ◌-◌, ℕ, [], ◌∷◌, ◌++◌, length, drop, get_or, ap, sym, ◌∙◌, subst, arith, length-append}
use Rattle.std.proofs.lemmas.List.{drop_more}
use Rattle.pm_recipe.specs.Opens.{AreOpens, Knows}
use Rattle.pm_recipe.proofs.OpenWords.{opens-more, knows-more}
use Rattle.pm_recipe.proofs.quotes.open_words.Goals as goal

pub loop-at-preserved : goal.loop-at-preserved
loop-at-preserved c =
    let text = c.args.text.now in
    let at : ℕ = c.loop-at.at - 1 in
    let byte : ℕ = get_or text at 0 in
    let inv = c.loop-at.invariant in
    let below : at < length text = omega (arith, c.loop-at-test.true, inv.within) in
    let up : at + 1 ≡ c.loop-at.at = omega (arith, c.loop-at-test.true) in
    let next : drop at text ≡ byte ∷ drop c.loop-at.at text = drop_more text at 0 below ∙ ap (λ n. byte ∷ drop n text) up in
    let here : AreOpens c.opens_at-here.result (drop at text) =
    subst (λ xs. AreOpens c.opens_at-here.result xs) (sym next)
    (subst (λ o. AreOpens o (byte ∷ drop c.loop-at.at text)) (sym c.opens_at-here.ensures) (opens-more byte c.loop-at.here (drop c.loop-at.at text) inv.here)) in
    let items : c.push-in-loop-at.new.self.items ≡ c.loop-at.known.items ++ (c.opens_at-here.result.word ∷ []) = c.in_ok-push-2.ensures.items in
    let size : at + length c.loop-at.known.items ≡ length text = omega (arith, inv.count, c.loop-at-test.true) in
    record {
      within = omega (arith, inv.within);
      here = here;
      count = omega (arith, size, ap length items, length-append c.loop-at.known.items (c.opens_at-here.result.word ∷ []));
      knows = subst (λ xs. Knows xs text) (sym items) (knows-more c.loop-at.known.items text at c.opens_at-here.result.word size here.word inv.knows);
    }
