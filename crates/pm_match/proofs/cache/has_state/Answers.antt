use Rattle.std.proofs.Common.{◌≡◌, Some, true, false, sym, ◌∙◌, subst, arith}
use Rattle.std.specs.Prelude.{slice_get}
use Rattle.std.proofs.lemmas.Option.{slice_get_read}
use Rattle.pm_match.specs.Backward.{Holds}
use Rattle.pm_match.proofs.cache.has_state.Goals as goal

pub index-requires-2 : goal.index-requires-2
index-requires-2 c =
    let cache = c.args.cache.now in
    let is = slice_get_read cache.sets.items _ _ _ cache.sets.ok.0 (omega (arith, c.requires.at, c.requires.sets.used)) c.index.ensures in
    let size = c.requires.sets.sets c.args.at c.index.result.now is in
    omega (arith, size, c.requires.state)

pub returns-clause-yes : goal.returns-clause-yes
returns-clause-yes c = λ yes.
    let cache = c.args.cache.now in
    let is = slice_get_read cache.sets.items _ _ _ cache.sets.ok.0 (omega (arith, c.requires.at, c.requires.sets.used)) c.index.ensures in
    let set = c.index.result.now.set in
    let size = c.requires.sets.sets c.args.at c.index.result.now is in
    let bit = slice_get_read set.items _ _ _ set.ok.0 (omega (arith, size, c.requires.state)) c.index-2.ensures in
    (c.index.result.now, is, subst (λ b. slice_get set.items c.args.state ≡ Some b) yes bit)

pub returns-clause-no : goal.returns-clause-no
returns-clause-no c = λ no s at h.
    let cache = c.args.cache.now in
    let is = slice_get_read cache.sets.items _ _ _ cache.sets.ok.0 (omega (arith, c.requires.at, c.requires.sets.used)) c.index.ensures in
    let set = c.index.result.now.set in
    let size = c.requires.sets.sets c.args.at c.index.result.now is in
    let bit = slice_get_read set.items _ _ _ set.ok.0 (omega (arith, size, c.requires.state)) c.index-2.ensures in
    let e : Some s ≡ Some c.index.result.now = sym at ∙ is in
    let same : s ≡ c.index.result.now = cc in
    let here : Holds set.items c.args.state = subst (λ r. Holds r.set.items c.args.state) same h in
    let wrong : Some true ≡ Some c.index-2.result.now = sym here ∙ bit in
    let wrong2 : true ≡ false = cc in cc
