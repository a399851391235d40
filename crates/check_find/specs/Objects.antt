-- Findings as JSON. The members of an object are in the order of their names.
use Rattle.std.specs.Prelude.{ℕ, Bool, true, false, List, map, count_by, codes}
use Rattle.serde_json.specs.Data.{Data, Members, number, unsigned, string, array, object, item, no_items, member, no_members}
use Rattle.serde_json.specs.View.{items_of}
use Rattle.check_find.specs.declared.codes.Severity.{Severity}
use Rattle.check_find.specs.declared.codes.Severity.TheVariants.{Error, Warning}
use Rattle.check_find.specs.declared.line.Line.{Line}
use Rattle.check_find.specs.Lines.{severity_word}
use Rattle.check_find.specs.Uris.{path_of}

-- a member that is a text, and one that is a number
abbrev pub text_member : List ℕ → List ℕ → Members → Members
text_member name text rest = member name (string text) rest

abbrev pub number_member : List ℕ → ℕ → Members → Members
number_member name count rest = member name (number (unsigned count)) rest

-- one finding
abbrev pub finding_data : Line → Data
finding_data line = object (
    text_member (codes "code") line.code.now (
    number_member (codes "column") line.column (
    text_member (codes "file") line.file.now (
    number_member (codes "line") line.line (
    text_member (codes "message") line.text.now (
    text_member (codes "severity") (severity_word line.severity) no_members))))))

-- what a severity counts for
abbrev pub is_error_word : Severity → Bool
is_error_word Error = true
is_error_word _ = false

abbrev pub is_warning_word : Severity → Bool
is_warning_word Warning = true
is_warning_word _ = false

-- all findings, and how many are errors and how many warnings
abbrev pub findings_data : List Line → Data
findings_data lines = object (
    number_member (codes "errors") (count_by (λ line. is_error_word line.severity) lines) (
    member (codes "findings") (array (items_of (map finding_data lines))) (
    number_member (codes "warnings") (count_by (λ line. is_warning_word line.severity) lines) no_members)))

-- the place of a finding, with the file's name as a URI
abbrev pub location_data : Line → Data
location_data line = object (
    member (codes "physicalLocation") (object (
    member (codes "artifactLocation") (object (
    text_member (codes "uri") (path_of line.file.now) no_members)) (
    member (codes "region") (object (
    number_member (codes "startColumn") line.column (
    number_member (codes "startLine") line.line no_members))) no_members)))
    no_members)

-- a finding as a result of SARIF
unfoldable pub result_data : Line → Data
result_data line = object (
    text_member (codes "level") (severity_word line.severity) (
    member (codes "locations") (array (item (location_data line) no_items)) (
    member (codes "message") (object (text_member (codes "text") line.text.now no_members)) (
    text_member (codes "ruleId") line.code.now no_members))))

-- a log of one run of this version with these results
unfoldable pub log_data : List ℕ → List Data → Data
log_data version results = object (
    text_member (codes "$schema") (codes "https://json.schemastore.org/sarif-2.1.0.json") (
    member (codes "runs") (array (item (object (
    member (codes "results") (array (items_of results)) (
    member (codes "tool") (object (member (codes "driver") (object (
    text_member (codes "name") (codes "procmail-check") (
    text_member (codes "version") version no_members))) no_members)) no_members))) no_items)) (
    text_member (codes "version") (codes "2.1.0") no_members)))
