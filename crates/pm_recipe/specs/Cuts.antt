-- The spans of an rcfile as the code has them.
use Rattle.std.specs.Prelude.{ℕ, ◌+◌, ◌≡◌, List, [], ◌∷◌, length, map}
use Rattle.pm_recipe.specs.declared.spans.Span.{Span}
use Rattle.pm_recipe.specs.Spans.{start}
use Rattle.pm_recipe.specs.Spells.{Piece, IsCut}

-- the piece of the text that a span is
abbrev pub piece_of : Span → Piece
piece_of span = record {
  span = record { kind = span.kind; line = span.line; name = span.name.now; text = span.text.now };
  bytes = span.bytes.now;
}

-- each span begins where the one before it ends, the first at this byte
abbrev pub AreInRow : ℕ → List Span → Type 0
AreInRow first [] = Unit {0}
AreInRow first (span ∷ spans) = (span.first ≡ first) × AreInRow (first + length span.bytes.now) spans

-- the cut of the text, span for span, and where each begins
pub record AreSpans (bytes : List ℕ) (spans : List Span) : Type 0 where
  pub cut : IsCut 1 start (map piece_of spans) bytes
  pub places : AreInRow 0 spans
