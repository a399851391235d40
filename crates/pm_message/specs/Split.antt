-- The head and the body of a mail.
use Rattle.std.specs.Prelude.{◌≡◌, ℕ, ◌≤◌, ◌⊎◌, List, [], ◌∷◌, ◌++◌, length, take, codes, bytes_eq, if◌then◌else◌}
use Rattle.std.specs.List.{concat}
use Rattle.pm_message.specs.Lines.{lines}
use Rattle.pm_message.specs.declared.head.Message.{Message}

-- the lines up to the first empty one, with it
abbrev pub head_lines : List (List ℕ) → List (List ℕ)
head_lines [] = []
head_lines (line ∷ rest) = if bytes_eq line (codes "\n") then line ∷ [] else line ∷ head_lines rest

-- the lines after the first empty one
abbrev pub body_lines : List (List ℕ) → List (List ℕ)
body_lines [] = []
body_lines (line ∷ rest) = if bytes_eq line (codes "\n") then rest else body_lines rest

-- the lines up to the first empty one, and it
abbrev pub head_of : List ℕ → List ℕ
head_of bytes = concat (head_lines (lines bytes))

-- the lines after them
abbrev pub body_of : List ℕ → List ℕ
body_of bytes = concat (body_lines (lines bytes))

-- the head ends with the first empty line, and the body is the rest
abbrev pub split_of : List ℕ → Message
split_of bytes = record { head = head_of bytes; body = body_of bytes }

-- head and body in one
abbrev pub whole_of : Message → List ℕ
whole_of message = message.head ++ message.body

-- the last line is empty: the text is a newline, or ends with two
abbrev pub EndsEmpty : List ℕ → Type 0
EndsEmpty text = (text ≡ codes "\n") ⊎ ((before : List ℕ) × (text ≡ before ++ codes "\n\n"))

-- the head is the shortest prefix whose last line is empty, and the whole where there is none; the body is the rest
pub record IsSplit (bytes : List ℕ) (message : Message) : Type 0 where
  pub whole : message.head ++ message.body ≡ bytes
  pub shortest : (n : ℕ) → EndsEmpty (take n bytes) → length message.head ≤ n
  pub ends : EndsEmpty message.head ⊎ (message.body ≡ [])
