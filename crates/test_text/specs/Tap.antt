-- The report of tests as TAP, version 13.
use Rattle.std.specs.Prelude.{ℕ, ◌+◌, Bool, true, false, ◌==◌, ◌||◌, List, [], ◌∷◌, ◌++◌, length, flat_map, codes, decimal, nat_lt, cond, if◌then◌else◌}
use Rattle.test_text.specs.declared.tap.Report.{Report}

-- a control character
abbrev pub is_control : ℕ → Bool
is_control byte = nat_lt byte 32 || (byte == 127)

-- in a description `#` and the backslash have a backslash before them, and a control character is a blank
abbrev pub tap_byte : ℕ → List ℕ
tap_byte byte =
    if byte == 35 then codes "\\#" else if byte == 92 then codes "\\\\" else if is_control byte then codes " " else byte ∷ []

-- in single quotes a single quote is two
abbrev pub quoted_byte : ℕ → List ℕ
quoted_byte byte = if byte == 39 then codes "''" else if is_control byte then codes " " else byte ∷ []

abbrev pub field : List ℕ → List ℕ → List ℕ
field name value = codes "  " ++ name ++ codes ": '" ++ flat_map quoted_byte value ++ codes "'\n"

abbrev pub number_field : List ℕ → ℕ → List ℕ
number_field name number = codes "  " ++ name ++ codes ": " ++ decimal number ++ codes "\n"

-- where a test stands
unfoldable pub place_fields : Report → List ℕ
place_fields r = field (codes "file") r.file ++ number_field (codes "line") r.line

-- where its mail was to go, and where it went
unfoldable pub outcome_fields : Report → List ℕ
outcome_fields r = field (codes "wanted") r.wanted ++ field (codes "got") r.got

-- why a test failed, as YAML
unfoldable pub tap_details : Report → List ℕ
tap_details r = codes "  ---\n" ++ place_fields r ++ outcome_fields r ++ codes "  ...\n"

abbrev pub verdict : Bool → List ℕ
verdict true = codes "ok "
verdict false = codes "not ok "

-- the lines of a test before which so many were
unfoldable pub tap_test : ℕ → Report → List ℕ
tap_test before r =
    verdict r.passed ++ decimal (before + 1) ++ codes " - " ++ flat_map tap_byte r.mail ++ codes "\n" ++ cond r.passed [] (tap_details r)

-- those of tests before which so many were
abbrev pub tap_lines : ℕ → List Report → List ℕ
tap_lines before [] = []
tap_lines before (r ∷ rs) = tap_test before r ++ tap_lines (before + 1) rs

-- the whole report
abbrev pub tap : List Report → List ℕ
tap rs = codes "TAP version 13\n1.." ++ decimal (length rs) ++ codes "\n" ++ tap_lines 0 rs
