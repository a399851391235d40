-- The report of tests as XML in the form of JUnit.
use Rattle.std.specs.Prelude.{ℕ, Bool, not, ◌==◌, List, [], ◌∷◌, ◌++◌, length, flat_map, count_by, codes, decimal, cond, if◌then◌else◌}
use Rattle.test_text.specs.Tap.{is_control}
use Rattle.test_text.specs.declared.tap.Report.{Report}

-- bytes that mean something in XML are entities, and control characters are blanks
abbrev pub xml_byte : ℕ → List ℕ
xml_byte byte =
    if byte == 38 then codes "&amp;"
    else if byte == 60 then codes "&lt;"
    else if byte == 62 then codes "&gt;"
    else if byte == 34 then codes "&quot;"
    else if is_control byte then codes " "
    else byte ∷ []

-- where the mail was to go, and where it went
unfoldable pub expectation : Report → List ℕ
expectation r = codes "wanted " ++ flat_map xml_byte r.wanted ++ codes "; got " ++ flat_map xml_byte r.got

-- where a test stands
unfoldable pub line_in : Report → List ℕ
line_in r = flat_map xml_byte r.file ++ codes ":" ++ decimal r.line ++ codes ": "

-- what stands before and after why it failed
unfoldable pub failure_front : List ℕ
failure_front = codes ">\n    <failure message=\""

unfoldable pub failure_end : List ℕ
failure_end = codes "</failure>\n  </testcase>\n"

-- why it failed, as an attribute
unfoldable pub message_in : Report → List ℕ
message_in r = failure_front ++ expectation r ++ codes "\">"

-- the rest of a case that failed
unfoldable pub failure_in : Report → List ℕ
failure_in r = message_in r ++ line_in r ++ expectation r ++ failure_end

-- the front of a case: its file, its line and its mail
unfoldable pub case_named : Report → List ℕ
case_named r =
    codes "  <testcase classname=\"" ++ flat_map xml_byte r.file ++ codes "\" name=\"" ++ decimal r.line ++ codes ": " ++ flat_map xml_byte r.mail ++ codes "\""

unfoldable pub case_of : Report → List ℕ
case_of r = case_named r ++ cond r.passed (codes "/>\n") (failure_in r)

-- what stands before the cases: how many there are, and how many failed
unfoldable pub head : ℕ → ℕ → List ℕ
head count failures =
    codes "<?xml version=\"1.0\" encoding=\"UTF-8\"?>\n<testsuites>\n<testsuite name=\"procmail-test\" tests=\"" ++ decimal count
    ++ codes "\" failures=\"" ++ decimal failures ++ codes "\">\n"

-- the whole report
abbrev pub junit : List Report → List ℕ
junit rs = head (length rs) (count_by (λ r. not r.passed) rs) ++ flat_map case_of rs ++ codes "</testsuite>\n</testsuites>\n"
