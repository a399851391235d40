-- The readers of runs: of bytes of one kind and joins, and of all bytes up to one.
use Rattle.std.specs.Prelude.{ℕ, nat_eq, Bool, false, true, not, ◌||◌}
use Rattle.pm_bytes.specs.Letter.{is_blank_byte, is_name_byte}
use Rattle.pm_bytes.specs.Alphabet.{NEWLINE, DOLLAR}
use Rattle.pm_recipe.specs.Bytes.{is_flag_letter}
use Rattle.pm_recipe.specs.Places.{Places}
use Rattle.pm_recipe.specs.declared.runs.Run.{Run}
use Rattle.pm_recipe.specs.declared.runs.Run.TheVariants.{Joins, Blanks, Name, Line, Letters}
use Rattle.pm_recipe.specs.declared.runs.UpTo.{UpTo}
use Rattle.pm_recipe.specs.declared.runs.UpTo.TheVariants.{Newline, Dollar}

-- the bytes of a run, beside joins
abbrev pub in_run : Run → ℕ → Bool
in_run Joins byte = false
in_run Blanks byte = is_blank_byte byte
in_run Name byte = is_name_byte byte
in_run Line byte = not (nat_eq byte NEWLINE)
in_run Letters byte = is_blank_byte byte || is_flag_letter byte

-- a run goes on at its bytes and at joins
abbrev pub run_places : Places Run
run_places = record { joins = λ run. true; ends = λ run byte. not (in_run run byte); after = λ run byte. run }

-- the byte that ends a text
abbrev pub end_of : UpTo → ℕ
end_of Newline = NEWLINE
end_of Dollar = DOLLAR

-- up to that byte a backslash is a byte as any other
abbrev pub up_to_places : Places UpTo
up_to_places = record { joins = λ end. false; ends = λ end byte. nat_eq byte (end_of end); after = λ end byte. end }
