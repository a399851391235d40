use Rattle.std.proofs.Common.{◌≡◌, ℕ, Bool, ◌||◌, List, [], ◌∷◌, map, option_map, refl, ap, ◌∙◌, Bor, if◌then◌else◌}
use Rattle.std.specs.List.{list_any}
use Rattle.std.proofs.lemmas.Iterator.Consumers.{YieldsList-from_first, YieldsList-end}
use Rattle.bstr.specs.Text.{lines_of}
use Rattle.formail_extra.specs.Cache.{is_line_of}
use Rattle.formail_extra.specs.Table.{mark_at}
use Rattle.formail_extra.proofs.marks.mark_all.Goals as goal

any_now : (test : List ℕ → Bool) (all : List (Bor (List ℕ))) → list_any (λ r. test r.now) all ≡ list_any test (map (λ r. r.now) all)
any_now test [] = refl
any_now test (line ∷ all) = ap (λ b. test line.now || b) (any_now test all)

pub returns : goal.returns
returns c = λ id.
    let road = YieldsList-from_first (λ (r : Bor (List ℕ)). r.now) (λ (rest : List (List ℕ)). rest) (lines_of c.args.bytes.now)
    (c.into_iter-line-iterator.ensures.into_iter_gives ∙ c.lines_with_terminator-line-items.ensures.value) in
    let whole = (YieldsList-end road c.loop-line.yielded _ c.loop-line.yielded_by _ _ c.in-None.is c.next.ensures.steps).0 in
    c.loop-line.invariant id
    ∙ ap (λ b. if b then option_map (λ _. c.args.round) (mark_at c.args.table.now id) else mark_at c.args.table.now id)
    (any_now (is_line_of id) c.loop-line.yielded ∙ ap (list_any (is_line_of id)) whole)
