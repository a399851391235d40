-- What the code keeps of the blocks that are open where a text ends.
use Rattle.std.proofs.Common.{◌≡◌, ◌+◌, ◌-◌, ◌<◌, ℕ, Bool, false, List, [], ◌∷◌, refl, ap, sym, ◌∙◌, length, drop, arith, subst}
use Rattle.pm_recipe.specs.Tree.{Defect}
use Rattle.pm_recipe.specs.Item.Item.{States}
use Rattle.pm_recipe.specs.Ends.{Blocks, outermost, missing, missed}
use Rattle.pm_recipe.specs.Builder.{Stands}
use Rattle.pm_recipe.specs.declared.ends.Unended.{Unended}

-- a line is the outermost of these
abbrev IsOuter : ℕ → List ℕ → Type 0
IsOuter outer lines = (line : ℕ) (rest : List ℕ) → lines ≡ line ∷ rest → outer ≡ outermost line rest

pub one-more : (outer colon : ℕ) (lines : List ℕ) → 0 < length lines → IsOuter outer lines → IsOuter outer (colon ∷ lines)
one-more outer colon [] some h = absurd (omega arith)
one-more outer colon (first ∷ lines) some h = λ line rest e. h first lines refl ∙ ap (outermost line) (ap (drop 1) e)

pub one-less : (outer : ℕ) (lines : List ℕ) → IsOuter outer lines → IsOuter outer (drop 1 lines)
one-less outer [] h = λ line rest e. h line rest e
one-less outer (first ∷ lines) h = λ line rest e. h first lines refl ∙ ap (outermost first) e

length-rest : (lines : List ℕ) (depth : ℕ) → length lines ≡ depth → length (drop 1 lines) ≡ depth - 1
length-rest [] depth h = omega (arith, h)
length-rest (line ∷ lines) depth h = omega (arith, h)

pub opened : (unended : Unended) (depth : ℕ) (blocks : Blocks) → Stands unended depth blocks → 0 < depth
    → Stands unended (depth + 1) (record { colon = blocks.colon; lines = blocks.colon ∷ blocks.lines; stopped = blocks.stopped })
opened unended depth blocks s h = record {
  colon = s.colon;
  stopped = s.stopped;
  lines = omega (arith, s.lines);
  outermost = one-more unended.outermost blocks.colon blocks.lines (omega (arith, s.lines, h)) s.outermost;
}

pub closed : (unended : Unended) (depth : ℕ) (blocks : Blocks) → Stands unended depth blocks
    → Stands unended (depth - 1) (record { colon = blocks.colon; lines = drop 1 blocks.lines; stopped = blocks.stopped })
closed unended depth blocks s = record {
  colon = s.colon;
  stopped = s.stopped;
  lines = length-rest blocks.lines depth s.lines;
  outermost = one-less unended.outermost blocks.lines s.outermost;
}

pub missed-some : (outer : ℕ) (lines : List ℕ) (stopped : Bool) → 0 < length lines → stopped ≡ false → IsOuter outer lines
    → States (Defect outer missing) ∷ [] ≡ missed lines stopped
missed-some outer [] stopped some h o = absurd (omega arith)
missed-some outer (line ∷ lines) stopped some h o =
    subst (λ s. States (Defect outer missing) ∷ [] ≡ missed (line ∷ lines) s) (sym h) (ap (λ n. States (Defect n missing) ∷ []) (o line lines refl))
