-- The pieces of a text, and that they are a cut of it.
use Rattle.std.proofs.Common.{◌≡◌, ◌+◌, ◌-◌, ◌<◌, ℕ, zero, suc, List, [], ◌∷◌, refl, ap, sym, ◌∙◌, length, take, drop, arith, subst}
use Rattle.pm_recipe.specs.declared.fronts.Situation.{Situation}
use Rattle.pm_recipe.specs.Front.{Front, front_of, before}
use Rattle.pm_recipe.specs.Spans.{span_of, line_past, newlines, situation_after, start}
use Rattle.pm_recipe.specs.Spells.{IsCut}
use Rattle.pm_recipe.specs.Item.{Item}
use Rattle.pm_recipe.specs.Reads.{item_of}
use Rattle.pm_recipe.specs.Ends.{Blocks, blocks_after}
use Rattle.pm_recipe.specs.Listed.{pieces, pieces_of, items_from}
use Rattle.pm_recipe.proofs.Cut.{line-newlines}
use Rattle.pm_recipe.proofs.Left.{IsLeft, left-more, shorter, before-left, take-before, drop-before, some-before}
use Rattle.pm_recipe.proofs.Shapes.{front-stands, front-spells}

-- what stands in a text from a line, a situation and open blocks on
abbrev pub items_at : ℕ → Situation → Blocks → List ℕ → List Item
items_at line situation blocks text = items_from situation blocks (pieces zero line situation text)

-- bytes that are passed over end lines and give no piece
pub pieces-drop : (skip line : ℕ) (situation : Situation) (text : List ℕ)
    → pieces skip line situation text ≡ pieces zero (line + newlines (take skip text)) situation (drop skip text)
pieces-drop zero line situation text = let e : line ≡ line + newlines (take zero text) = omega arith in ap (λ n. pieces zero n situation text) e
pieces-drop (suc skip) line situation [] = refl
pieces-drop (suc skip) line situation (byte ∷ bytes) =
    pieces-drop skip (line_past byte line) situation bytes
    ∙ ap (λ n. pieces zero n situation (drop skip bytes)) (line-newlines byte line (take skip bytes))

-- the first piece, and the pieces after it
pub pieces-turn : (line : ℕ) (situation : Situation) (whole : List ℕ) → 0 < length whole → (let front = front_of situation whole in
    pieces zero line situation whole
    ≡ (record { span = span_of front line; bytes = before whole front.behind })
    ∷ pieces zero (line + newlines (before whole front.behind)) (situation_after front.kind situation) front.behind)
pieces-turn line situation [] some = absurd (omega arith)
pieces-turn line situation (byte ∷ bytes) some =
    let front = front_of situation (byte ∷ bytes) in
    let after = situation_after front.kind situation in
    let left = (front-stands situation byte bytes).0 in
    let skip = length bytes - length front.behind in
    ap (λ ps. (record { span = span_of front line; bytes = before (byte ∷ bytes) front.behind }) ∷ ps)
    (pieces-drop (suc skip) line after (byte ∷ bytes)
    ∙ ap (λ xs. pieces zero (line + newlines xs) after (drop skip bytes)) (take-before front.behind byte bytes left)
    ∙ ap (λ xs. pieces zero (line + newlines (before (byte ∷ bytes) front.behind)) after xs) (drop-before front.behind byte bytes left))

-- what its span says, and what stands after it
pub turned : (line : ℕ) (situation : Situation) (blocks : Blocks) (text : List ℕ) (front : Front) (line_now : ℕ) (situation_now : Situation)
    → 0 < length text → front ≡ front_of situation text
    → line_now ≡ line + newlines (before text front.behind) → situation_now ≡ situation_after front.kind situation
    → items_at line situation blocks text
    ≡ item_of (span_of front line) front.kind ∷ items_at line_now situation_now (blocks_after front.kind line blocks) front.behind
turned line situation blocks text front line_now situation_now some is line_is situation_is =
    let P : Front → Type 0 = λ f. items_at line situation blocks text ≡ item_of (span_of f line) f.kind
    ∷ items_at (line + newlines (before text f.behind)) (situation_after f.kind situation) (blocks_after f.kind line blocks) f.behind in
    rw (line_is, situation_is) (subst P (sym is) (ap (items_from situation blocks) (pieces-turn line situation text some)))

-- a front leaves less than the text
pub leaves : (situation : Situation) (text : List ℕ) (front : Front) → 0 < length text → front ≡ front_of situation text
    → IsLeft front.behind text × (length front.behind < length text)
leaves situation [] front some is = absurd (omega arith)
leaves situation (byte ∷ bytes) front some is =
    let left = (front-stands situation byte bytes).0 in
    subst (λ f. IsLeft f.behind (byte ∷ bytes) × (length f.behind < length (byte ∷ bytes))) (sym is)
    (left-more _ byte bytes left, omega (arith, shorter _ bytes left))

-- the pieces after bytes that are passed over cut what follows these
cut-behind : (skip line : ℕ) (situation : Situation) (text : List ℕ)
    → IsCut (line + newlines (take skip text)) situation (pieces skip line situation text) (drop skip text)
cut-behind zero line situation [] = refl
cut-behind (suc skip) line situation [] = refl
cut-behind (suc skip) line situation (byte ∷ bytes) =
    subst (λ n. IsCut n situation (pieces skip (line_past byte line) situation bytes) (drop skip bytes)) (line-newlines byte line (take skip bytes))
    (cut-behind skip (line_past byte line) situation bytes)
cut-behind zero line situation (byte ∷ bytes) =
    let text : List ℕ = byte ∷ bytes in
    let front = front_of situation text in
    let left = (front-stands situation byte bytes).0 in
    let after = situation_after front.kind situation in
    let skip = length bytes - length front.behind in
    let here : line ≡ line + newlines (take zero text) = omega arith in
    let starts : byte ∷ take skip bytes ≡ before text front.behind = take-before front.behind byte bytes left in
    let more : IsCut (line + newlines (before text front.behind)) after (pieces skip (line_past byte line) after bytes) front.behind =
    subst (λ xs. IsCut (line + newlines (before text front.behind)) after (pieces skip (line_past byte line) after bytes) xs) (drop-before front.behind byte bytes left)
    (subst (λ n. IsCut n after (pieces skip (line_past byte line) after bytes) (drop skip bytes))
    (line-newlines byte line (take skip bytes) ∙ ap (λ xs. line + newlines xs) starts) (cut-behind skip (line_past byte line) after bytes)) in
    subst (λ n. IsCut n situation (pieces zero line situation text) text) here (
      front.behind,
      sym (before-left front.behind text (left-more front.behind byte bytes left)),
      refl,
      some-before front.behind byte bytes left,
      front-spells situation byte bytes,
      more,
    )

pub cut-text : (text : List ℕ) → IsCut 1 start (pieces_of text) text
cut-text text = cut-behind 0 1 start text
