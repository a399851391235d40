-- The parts of a line.
use Rattle.std.specs.Prelude.{ℕ, ◌+◌, Bool, true, ◌==◌, ◌||◌, ◌&&◌, List, [], ◌∷◌, length, take, drop, Option, Some, None, option_map, nat_eq, if◌then◌else◌}
use Rattle.std.specs.List.{starts_with}
use Rattle.std.specs.Char.{is_whitespace}
use Rattle.bstr.specs.Text.{split_at}
use Rattle.bstr.specs.Trim.{trim_start_by, trim_end_by}
use Rattle.memchr.specs.Find.{first_of, matches, rmatches}

-- without blanks at both ends
abbrev pub trimmed : List ℕ → List ℕ
trimmed text = trim_end_by is_whitespace (trim_start_by is_whitespace text)

-- what stands before and after this place, where a text of so many bytes is
abbrev pub cut_where : ℕ → List ℕ → Option ℕ → Option (List ℕ × List ℕ)
cut_where size text place = option_map (λ k. (take k text, drop (k + size) text)) place

-- what stands before and after the first such text
abbrev pub cut_at : List ℕ → List ℕ → Option (List ℕ × List ℕ)
cut_at needle text = cut_where (length needle) text (first_of (matches text needle 0))

-- and of the last one
abbrev pub cut_at_last : List ℕ → List ℕ → Option (List ℕ × List ℕ)
cut_at_last needle text = cut_where (length needle) text (first_of (rmatches text needle (length text)))

-- the pieces between such texts
abbrev pub pieces_at : List ℕ → List ℕ → List (List ℕ)
pieces_at needle text = split_at text (length needle) 0 (matches text needle 0)

-- a blank or the end
abbrev pub begins_with_blank : List ℕ → Bool
begins_with_blank [] = true
begins_with_blank (byte ∷ rest) = (byte == 32) || (byte == 9)

-- what stands behind a word and blanks
abbrev pub after_word : List ℕ → List ℕ → Option (List ℕ)
after_word word text =
    if starts_with nat_eq text word && begins_with_blank (drop (length word) text) then Some (trimmed (drop (length word) text)) else None
