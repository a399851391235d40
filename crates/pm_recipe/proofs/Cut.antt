-- Lines that end in a text, and where a text ends inside blocks.
use Rattle.std.proofs.Common.{◌≡◌, ◌<◌, ◌≤◌, ◌+◌, ◌-◌, ℕ, suc, zero, Bool, true, false, cond, nat_eq, List, ◌∷◌, ◌++◌, ap, length, drop, arith, length-drop, slice_range}
use Rattle.std.proofs.lemmas.List.{take_all}
use Rattle.pm_bytes.specs.Alphabet.{NEWLINE}
use Rattle.pm_recipe.specs.Spans.{line_past, newlines}
use Rattle.pm_recipe.specs.Item.{Item}
use Rattle.pm_recipe.specs.Item.Item.{Closes}
use Rattle.pm_recipe.specs.Ends.{ends}

pub line-newlines : (byte line : ℕ) (bytes : List ℕ) → line_past byte line + newlines bytes ≡ line + newlines (byte ∷ bytes)
line-newlines byte line bytes = by (nat_eq byte NEWLINE)
  where
    by : (b : Bool) → cond b (line + 1) line + newlines bytes ≡ line + cond b (newlines bytes + 1) (newlines bytes)
    by true = omega arith
    by false = omega arith

-- what `&text[at..]` is
pub range-to_end : (text : List ℕ) (at : ℕ) → slice_range text at (length text) ≡ drop at text
range-to_end text at = let whole : length (drop at text) ≤ length text - at = omega (arith, length-drop at text) in take_all (length text - at) (drop at text) whole

pub ends-more : (depth : ℕ) (after : List Item) → 0 < depth → Closes ∷ (ends (depth - 1) ++ after) ≡ ends depth ++ after
ends-more zero after h = absurd (omega arith)
ends-more (suc depth) after h = let e : suc depth - 1 ≡ depth = omega arith in ap (λ n. Closes ∷ (ends n ++ after)) e
