-- Short reports, and how names are compared.
use Rattle.std.specs.Prelude.{◌≡◌, ℕ, Bool, true, false, List, [], ◌∷◌, Some, None, codes}
use Rattle.test_text.specs.Bags.{left_over, is_same}
use Rattle.test_text.specs.Junit.{junit, case_of}
use Rattle.test_text.specs.Names.{name_of, shown_name, seen_from, without_ending}
use Rattle.test_text.specs.Tap.{tap, tap_test}
use Rattle.test_text.specs.Told.{told}
use Rattle.test_text.specs.declared.tap.Report.{Report}

-- Lists without regard to their order.
pub record OfLists : Type 0 where
  pub order : is_same (codes "a" ∷ codes "b" ∷ []) (codes "b" ∷ codes "a" ∷ []) ≡ true
  pub less : is_same (codes "a" ∷ []) (codes "a" ∷ codes "b" ∷ []) ≡ false
  pub more : is_same (codes "a" ∷ codes "b" ∷ []) (codes "a" ∷ []) ≡ false
  pub twice : is_same (codes "a" ∷ codes "a" ∷ codes "b" ∷ []) (codes "a" ∷ codes "b" ∷ codes "b" ∷ []) ≡ false
  pub none : is_same [] [] ≡ true
  pub left : left_over (codes "a" ∷ codes "b" ∷ codes "a" ∷ []) (codes "a" ∷ codes "c" ∷ []) ≡ codes "a" ∷ codes "b" ∷ []

-- What a name of a test means, with the home directory `/h` and the default mailbox `/v/joe`.
pub record OfNames : Type 0 where
  pub default : name_of (codes "default") (codes "/h") (codes "/v/joe") ≡ codes "/v/joe"
  pub in_home : name_of (codes "Mail/x") (codes "/h") (codes "/v/joe") ≡ codes "/h/Mail/x"
  pub home_with_slash : name_of (codes "Mail/x") (codes "/h/") (codes "/v/joe") ≡ codes "/h/Mail/x"
  pub tilde : name_of (codes "~/Mail/x") (codes "/h") (codes "/v/joe") ≡ codes "/h/Mail/x"
  pub absolute : name_of (codes "/tmp/x") (codes "/h") (codes "/v/joe") ≡ codes "/tmp/x"
  pub maildir : name_of (codes "md/") (codes "/h") (codes "/v/joe") ≡ codes "/h/md"
  pub mh : name_of (codes "mh/.") (codes "/h") (codes "/v/joe") ≡ codes "/h/mh"
  pub program : name_of (codes "| x/") (codes "/h") (codes "/v/joe") ≡ codes "| x/"
  pub forward : name_of (codes "forward a b") (codes "/h") (codes "/v/joe") ≡ codes "forward a b"
  pub no_forward : name_of (codes "forward") (codes "/h") (codes "/v/joe") ≡ codes "/h/forward"
  pub output : name_of (codes "standard output") (codes "/h") (codes "/v/joe") ≡ codes "standard output"
  pub mailbox : seen_from (codes "/h/Mail") (without_ending (codes "inbox/")) ≡ codes "/h/Mail/inbox"
  pub shown : shown_name (codes "/h/Mail/x") (codes "/h") ≡ codes "Mail/x"
  pub shown_elsewhere : shown_name (codes "/home/x") (codes "/h") ≡ codes "/home/x"
  pub several : told (codes "a" ∷ codes "b" ∷ []) (Some 75) ≡ codes "a, b, status 75"
  pub nowhere : told [] None ≡ codes "nothing"

-- a test that passed, and one that failed
abbrev pub passed : List ℕ → Report
passed mail = record { file = codes "t"; line = 2; mail = mail; wanted = codes "a"; got = codes "a"; passed = true }

abbrev pub failed : Report
failed = record { file = codes "it's"; line = 3; mail = codes "n"; wanted = codes "<a>"; got = codes "\"b\"&\tc"; passed = false }

-- Reports.
pub record OfReports : Type 0 where
  pub ok : tap_test 0 (passed (codes "m")) ≡ codes "ok 1 - m\n"
  pub escaped : tap_test 9 (passed (codes "a#b\\c\td")) ≡ codes "ok 10 - a\\#b\\\\c d\n"
  pub not_ok : tap_test 1 failed ≡ codes "not ok 2 - n\n  ---\n  file: 'it''s'\n  line: 3\n  wanted: '<a>'\n  got: '\"b\"& c'\n  ...\n"
  pub whole : tap (passed (codes "m") ∷ passed (codes "n") ∷ []) ≡ codes "TAP version 13\n1..2\nok 1 - m\nok 2 - n\n"
  pub case_passed : case_of (passed (codes "a&b")) ≡ codes "  <testcase classname=\"t\" name=\"2: a&amp;b\"/>\n"
  pub case_failed : case_of failed ≡ codes "  <testcase classname=\"it's\" name=\"3: n\">\n    <failure message=\"wanted &lt;a&gt;; got &quot;b&quot;&amp; c\">it's:3: wanted &lt;a&gt;; got &quot;b&quot;&amp; c</failure>\n  </testcase>\n"
  pub suite : junit (passed (codes "m") ∷ []) ≡ codes "<?xml version=\"1.0\" encoding=\"UTF-8\"?>\n<testsuites>\n<testsuite name=\"procmail-test\" tests=\"1\" failures=\"0\">\n  <testcase classname=\"t\" name=\"2: m\"/>\n</testsuite>\n</testsuites>\n"
