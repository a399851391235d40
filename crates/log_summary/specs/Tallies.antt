-- How many mails and bytes each folder got, and how often each message stands in a log.
use Rattle.std.specs.Prelude.{ℕ, ◌+◌, ◌-◌, ◌^◌, min, List, [], ◌∷◌, Option, None, Some, fold, if◌then◌else◌}
use Rattle.std.specs.Str.{bytes_eq}
use Rattle.log_summary.specs.LogLines.{delivery_in, message_in}
use Rattle.log_summary.specs.Folders.{folder}
use Rattle.log_summary.specs.Messages.{kind}

-- a name with its count and its bytes
pub record Row : Type 0 where
  pub name : List ℕ
  pub count : ℕ
  pub bytes : ℕ

-- no number above this one is counted
abbrev pub most : ℕ
most = 2 ^ 64 - 1

-- a number with so many more, which begins where none stands yet
abbrev pub grown : ℕ → Option ℕ → ℕ
grown more None = more
grown more (Some number) = min (number + more) most

-- one more of this name: its row counts it, or a new row at the end does
abbrev pub with_one : List ℕ → ℕ → List Row → List Row
with_one name bytes [] = record { name = name; count = 1; bytes = bytes } ∷ []
with_one name bytes (row ∷ rest) =
    if bytes_eq name row.name
    then record { name = row.name; count = grown 1 (Some row.count); bytes = grown bytes (Some row.bytes) } ∷ rest
    else row ∷ with_one name bytes rest

-- the rows with what one may be
abbrev pub with_delivery : Option (List ℕ × ℕ) → List Row → List Row
with_delivery None rows = rows
with_delivery (Some told) rows = with_one (folder told.0) told.1 rows

abbrev pub with_message : Option (List ℕ) → List Row → List Row
with_message None rows = rows
with_message (Some text) rows = with_one (kind text) 0 rows

-- the folders of these lines, after these rows
abbrev pub deliveries : List Row → List (List ℕ) → List Row
deliveries = fold (λ rows line. with_delivery (delivery_in line) rows)

-- the messages of these lines, after these rows
abbrev pub messages : List Row → List (List ℕ) → List Row
messages = fold (λ rows line. with_message (message_in line) rows)
