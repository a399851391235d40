-- Spans that stand one after the other.
use Rattle.std.proofs.Common.{◌≡◌, ◌+◌, ◌<◌, ℕ, zero, List, [], ◌∷◌, ◌++◌, refl, ap, sym, ◌∙◌, length, arith, subst, map, append_assoc, append-nil}
use Rattle.std.proofs.lemmas.List.{map-append}
use Rattle.pm_recipe.specs.declared.fronts.Situation.{Situation}
use Rattle.pm_recipe.specs.declared.spans.Span.{Span}
use Rattle.pm_recipe.specs.Front.{Front, front_of, before}
use Rattle.pm_recipe.specs.Spans.{span_of, newlines, situation_after, start}
use Rattle.pm_recipe.specs.Spells.{Piece, IsCut}
use Rattle.pm_recipe.specs.Listed.{pieces, pieces_of}
use Rattle.pm_recipe.specs.Cuts.{piece_of, AreInRow}
use Rattle.pm_recipe.proofs.Pieces.{pieces-turn, cut-text}

-- how many bytes spans have
abbrev pub taken_by : List Span → ℕ
taken_by [] = 0
taken_by (span ∷ spans) = length span.bytes.now + taken_by spans

pub taken-more : (spans : List Span) (span : Span) → taken_by (spans ++ (span ∷ [])) ≡ taken_by spans + length span.bytes.now
taken-more [] span = omega arith
taken-more (first ∷ spans) span = omega (arith, taken-more spans span)

-- one span more, which begins where these end
pub row-more : (first : ℕ) (spans : List Span) (span : Span) → AreInRow first spans → span.first ≡ first + taken_by spans
    → AreInRow first (spans ++ (span ∷ []))
row-more first [] span row is = (omega (arith, is), tt)
row-more first (other ∷ spans) span row is = (row.0, row-more (first + length other.bytes.now) spans span row.1 (omega (arith, is)))

pub row-on : (spans new : List Span) (span : Span) → new ≡ spans ++ (span ∷ []) → AreInRow 0 spans → span.first ≡ taken_by spans → AreInRow 0 new
row-on spans new span push row is = subst (AreInRow 0) (sym push) (row-more 0 spans span row (omega (arith, is)))

pub taken-on : (spans new : List Span) (span : Span) → new ≡ spans ++ (span ∷ []) → taken_by new ≡ taken_by spans + length span.bytes.now
taken-on spans new span push = ap taken_by push ∙ taken-more spans span

-- the pieces of a text, of which one more is a span now
pub cut-on : (line line_now : ℕ) (situation situation_now : Situation) (text : List ℕ) (front : Front) (spans new : List Span) (span : Span) (all : List Piece)
    → new ≡ spans ++ (span ∷ []) → 0 < length text → front ≡ front_of situation text → piece_of span ≡ record { span = span_of front line; bytes = before text front.behind }
    → line_now ≡ line + newlines (before text front.behind) → situation_now ≡ situation_after front.kind situation
    → map piece_of spans ++ pieces zero line situation text ≡ all
    → map piece_of new ++ pieces zero line_now situation_now front.behind ≡ all
cut-on line line_now situation situation_now text front spans new span all push some is piece_is line_is situation_is old =
    let P : Front → Type 0 = λ f. pieces zero line situation text ≡ (record { span = span_of f line; bytes = before text f.behind })
    ∷ pieces zero (line + newlines (before text f.behind)) (situation_after f.kind situation) f.behind in
    let turn : P front = subst P (sym is) (pieces-turn line situation text some) in
    let more : piece_of span ∷ pieces zero line_now situation_now front.behind ≡ pieces zero line situation text = rw (line_is, situation_is, piece_is) (sym turn) in
    ap (λ ps. ps ++ pieces zero line_now situation_now front.behind) (ap (λ ss. map piece_of ss) push ∙ map-append piece_of spans (span ∷ []))
    ∙ append_assoc (map piece_of spans) (piece_of span ∷ []) (pieces zero line_now situation_now front.behind)
    ∙ ap (λ ps. map piece_of spans ++ ps) more ∙ old

-- where nothing of the text is left, the spans are its cut
pub cut-whole : (bytes rest : List ℕ) (line : ℕ) (situation : Situation) (spans : List Span) → length rest ≡ 0
    → map piece_of spans ++ pieces zero line situation rest ≡ pieces_of bytes → IsCut 1 start (map piece_of spans) bytes
cut-whole bytes [] line situation spans none is = subst (λ ps. IsCut 1 start ps bytes) (sym (sym (append-nil (map piece_of spans)) ∙ is)) (cut-text bytes)
cut-whole bytes (byte ∷ rest) line situation spans none is = absurd (omega arith)
