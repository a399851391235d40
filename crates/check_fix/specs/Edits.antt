-- Edits of a span: bytes in the place of others.
use Rattle.std.specs.Prelude.{ℕ, ◌-◌, List, [], ◌∷◌, length}
use Rattle.check_fix.specs.declared.edits.Edit.{Edit}

-- of a span that begins at this place and has this text: bytes in the place of so many, where this rest of its text begins;
-- none, if the rest has no bytes
abbrev pub edit_at : ℕ → List ℕ → List ℕ → ℕ → List ℕ → List Edit
edit_at first text [] count bytes = []
edit_at first text (byte ∷ rest) count bytes =
    (record { first = first; place = length text - length (byte ∷ rest); count = count; bytes = bytes }) ∷ []
