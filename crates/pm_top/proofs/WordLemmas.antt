-- Groups of letters, and words one after the other.
use Rattle.std.proofs.Common.{◌≡◌, ◌<◌, ◌+◌, ℕ, List, ◌∷◌, Option, Some, None, length, drop, get_or, sym, ap, ◌∙◌}
use Rattle.std.specs.Prelude.{option_and_then, String, string_bytes}
use Rattle.std.specs.declared.alloc.Global.{Global}
use Rattle.std.proofs.lemmas.List.{at_drop_more}
use Rattle.pm_meaning.specs.declared.command_line.CommandLine.{CommandLine}
use Rattle.pm_top.specs.Words.{letters, by_letter, awaited, with_letter, rest_or_next, has_some, read_word, asked, all_bytes}
use Rattle.pm_top.specs.Reading.{at, with_word, Says}
use Rattle.pm_top.specs.declared.place.Next.{Next}
use Rattle.pm_top.specs.declared.place.Place.{Place}
use Rattle.pm_top.specs.declared.place.Word.{Word}

-- the letter at this place takes a text
pub letter_awaits : (word : List ℕ) (k letter : ℕ) (next : Next) (line : CommandLine) → k < length word → letter ≡ get_or word k 0 → Some next ≡ awaited letter
    → letters (drop k word) line ≡ rest_or_next next (drop (k + 1) word) line
letter_awaits word k letter next line more is takes =
    let rest = drop (k + 1) word in
    at_drop_more (λ w. letters w line) word k 0 more
    ∙ ap (λ l. by_letter (awaited l) rest line (with_letter l line) (λ now. letters rest now)) (sym is)
    ∙ ap (λ n. by_letter n rest line (with_letter letter line) (λ now. letters rest now)) (sym takes)

-- or it stands alone
pub letter_alone : (word : List ℕ) (k letter : ℕ) (line : CommandLine) (found : Option CommandLine) → k < length word → letter ≡ get_or word k 0 → None ≡ awaited letter → with_letter letter line ≡ found
    → letters (drop k word) line ≡ option_and_then (λ now. letters (drop (k + 1) word) now) found
letter_alone word k letter line found more is takes alone =
    let rest = drop (k + 1) word in
    at_drop_more (λ w. letters w line) word k 0 more
    ∙ ap (λ l. by_letter (awaited l) rest line (with_letter l line) (λ now. letters rest now)) (sym is)
    ∙ ap (λ n. by_letter n rest line (with_letter letter line) (λ now. letters rest now)) (sym takes)
    ∙ ap (λ f. option_and_then (λ now. letters rest now) f) alone

-- the first of the words that are left
front : (words : List (String Global)) (i : ℕ) (d word : String Global) → word ≡ get_or words i d → i < length words → all_bytes (drop i words) ≡ string_bytes word ∷ all_bytes (drop (i + 1) words)
front words i d word is more = at_drop_more all_bytes words i d more ∙ ap (λ w. string_bytes w ∷ all_bytes (drop (i + 1) words)) (sym is)

-- one word more
one_word : (words : List (String Global)) (i : ℕ) (d word : String Global) (place : Place) (found : Option Word) (line : CommandLine) → word ≡ get_or words i d → i < length words → has_some line.rcfiles ≡ place.named
    → Says (read_word place.next (string_bytes word)) place found
    → asked place.next (at place line) (all_bytes (drop i words)) ≡ option_and_then (λ said. asked said.next said.line (all_bytes (drop (i + 1) words))) (with_word found line)
one_word words i d word place found line is more named says =
    let rest = all_bytes (drop (i + 1) words) in
    ap (asked place.next (at place line)) (front words i d word is more) ∙ ap (option_and_then (λ said. asked said.next said.line rest)) (says line named)

-- it wasn't
pub word_stops : (words : List (String Global)) (i : ℕ) (d word : String Global) (place : Place) (line : CommandLine) (whole : Option CommandLine) → word ≡ get_or words i d → i < length words
    → has_some line.rcfiles ≡ place.named → Says (read_word place.next (string_bytes word)) place None → asked place.next (at place line) (all_bytes (drop i words)) ≡ whole → None ≡ whole
word_stops words i d word place line whole is more named says h = sym (one_word words i d word place None line is more named says) ∙ h
