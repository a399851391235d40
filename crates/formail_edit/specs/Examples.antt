-- Short mails, and what formail writes of them.
use Rattle.std.specs.Prelude.{◌≡◌, ℕ, pos, Bool, true, false, Option, Some, None, List, [], ◌∷◌, ◌++◌, codes}
use Rattle.std.specs.List.{filter, range_with_len}
use Rattle.pm_message.specs.Date.{from_line_of}
use Rattle.pm_message.specs.Field.{texts_of}
use Rattle.pm_message.specs.Split.{split_of}
use Rattle.formail_edit.specs.Output.{edited}
use Rattle.formail_edit.specs.Sender.{sender_for, line_at, bracketed, is_visible}
use Rattle.formail_edit.specs.declared.edits.Edits.{Edits}
use Rattle.formail_edit.specs.declared.edits.Rename.{Rename}
use Rattle.formail_edit.specs.declared.edits.Put.{Put}
use Rattle.formail_edit.specs.declared.edits.PutKind.{PutKind}
use Rattle.formail_edit.specs.declared.edits.PutKind.TheVariants.{Old, Replace, IfNone, Always}
use Rattle.formail_edit.specs.declared.edits.Unique.{Unique}
use Rattle.formail_edit.specs.declared.edits.Take.{Take}

-- no option
abbrev pub plain : Edits
plain = record {
  renames = [];
  puts = [];
  uniques = [];
  takes = [];
  prefix = codes ">";
  keep_from = false;
  keep_body = false;
  zap = false;
  join = false;
  with_body = false;
}

-- `-f`, so that the header is edited alone
abbrev pub header : Edits
header = record plain { keep_from = true }

-- and with it one option more
abbrev pub put : PutKind → List ℕ → Put
put kind text = record { kind = kind; text = text }

abbrev pub putting : PutKind → List ℕ → Edits
putting kind text = record header { puts = put kind text ∷ [] }

abbrev pub rename : List ℕ → List ℕ → Rename
rename old new = record { old = old; new = new }

abbrev pub renaming : List ℕ → List ℕ → Edits
renaming old new = record header { renames = rename old new ∷ [] }

abbrev pub unique : Bool → List ℕ → Unique
unique last name = record { last = last; name = name }

abbrev pub keeping : Bool → List ℕ → Edits
keeping last name = record header { uniques = unique last name ∷ [] }

abbrev pub extract : Bool → List ℕ → Take
extract whole name = record { whole = whole; name = name }

-- `-x` or `-X` without `-f`
abbrev pub taking : Bool → List ℕ → Edits
taking whole name = record plain { takes = extract whole name ∷ [] }

-- what is written of a mail, with no line in front
abbrev pub written : Edits → List ℕ → List ℕ
written edits mail = edited (split_of mail) edits None

-- whom a line in front is from
abbrev pub sender : Edits → List ℕ → Option (List ℕ)
sender edits mail = sender_for (split_of mail) edits

abbrev pub two_subjects : List ℕ
two_subjects =
    codes "From a Thu Jan  1 00:00:00 1970\nSubject: one\nSubject: two\n more\nTo: x\nTotal: 3\nFoo: q\n\nb\n"

abbrev pub three : List ℕ
three = codes "A: 1\nB: 2\na: 3\n\n"

-- what holds of them
pub record Examples : Type 0 where
  -- the fields of a header; a blank continues one, and a last line without newline gets one
  pub fields : texts_of (codes "From a\nA: 1\n 2\n\t3\nb\n\n")
      ≡ codes "From a\n" ∷ codes "A: 1\n 2\n\t3\n" ∷ codes "b\n" ∷ []
  pub open_header : written header (codes "A: 1") ≡ codes "A: 1\n\n"
  -- a name means each field whose key begins with it, in either case
  pub partial_name : written (putting Replace (codes "t")) (codes "To: x\nTotal: 3\nSubject: t\n\n")
      ≡ codes "Subject: t\n\n"
  pub whole_name : written (putting Replace (codes "To:")) (codes "to: x\nTotal: 3\nX-To: y\nTo : z\n\n")
      ≡ codes "Total: 3\nX-To: y\nTo : z\n\n"
  pub longer_name : written (putting Replace (codes "Total:")) (codes "To: x\n\n") ≡ codes "To: x\n\n"
  -- `From ` is a key of the first line alone
  pub first_line : written (putting Replace (codes "From ")) (codes "From a\nFrom: b\nFrom c\n\n")
      ≡ codes "From: b\nFrom c\n\n"
  pub line_and_field : written (putting Replace (codes "From")) (codes "From a\nFrom: b\nFrom c\n\n")
      ≡ codes "From c\n\n"
  pub field_alone : written (putting Replace (codes "From:")) (codes "From a\nFrom: b\nFrom c\n\n")
      ≡ codes "From a\nFrom c\n\n"
  -- a name has bytes from `!` to `~`, and at least one
  pub last_name_byte : written (putting Replace (codes "A")) (codes "A~!: 1\nB: 2\n\n") ≡ codes "B: 2\n\n"
  pub byte_127 : written (putting Replace (codes "A")) (codes "A" ++ 127 ∷ codes ": 1\nB: 2\n\n")
      ≡ codes "A" ++ 127 ∷ codes ": 1\nB: 2\n\n"
  pub byte_128 : written (putting Replace (codes "A")) (codes "A" ++ 128 ∷ codes ": 1\nB: 2\n\n")
      ≡ codes "A" ++ 128 ∷ codes ": 1\nB: 2\n\n"
  pub no_name : written (record header { zap = true }) (codes ":\nB: 2\n\n") ≡ codes ":\nB: 2\n\n"
  -- `-R`: the first bytes of the key, of which a colon is in both names or in none
  pub both_colons : written (renaming (codes "a:") (codes "Cc:")) three ≡ codes "Cc: 1\nB: 2\nCc: 3\n\n"
  pub colon_added : written (renaming (codes "A:") (codes "C")) three ≡ codes "C: 1\nB: 2\nC: 3\n\n"
  pub colon_dropped : written (renaming (codes "A") (codes "C:")) (codes "Ab: 1\nB: A\n\n") ≡ codes "Cb: 1\nB: A\n\n"
  pub no_colon : written (renaming (codes "A") (codes "Cc")) (codes "Ab: 1\nB: A\n\n") ≡ codes "Ccb: 1\nB: A\n\n"
  pub renamed_again :
      written (record header { renames = rename (codes "A:") (codes "B:") ∷ rename (codes "B:") (codes "C:") ∷ [] })
      three
      ≡ codes "C: 1\nC: 2\nC: 3\n\n"
  -- `-i`, `-I`, `-a` and `-A`
  pub old : written (putting Old (codes "A: x")) three ≡ codes "Old-A: 1\nB: 2\nOld-a: 3\nA: x\n\n"
  pub old_name : written (putting Old (codes "A")) (codes "A: 1\nAb: 2\nB: A\n\n")
      ≡ codes "Old-A: 1\nOld-Ab: 2\nB: A\n\n"
  pub replaced : written (putting Replace (codes "A: x")) three ≡ codes "B: 2\nA: x\n\n"
  pub removed : written (putting Replace (codes "A:")) three ≡ codes "B: 2\n\n"
  pub not_added : written (putting IfNone (codes "A: x")) three ≡ three
  pub added_if_none : written (putting IfNone (codes "C: x")) three ≡ codes "A: 1\nB: 2\na: 3\nC: x\n\n"
  pub empty_if_none : written (putting IfNone (codes "C:")) three ≡ three
  pub added : written (putting Always (codes "A: x")) three ≡ codes "A: 1\nB: 2\na: 3\nA: x\n\n"
  pub empty_always : written (putting Always (codes "C:")) three ≡ three
  pub content_with_colon : written (putting Always (codes "C:x:y")) three ≡ codes "A: 1\nB: 2\na: 3\nC:x:y\n\n"
  pub put_in_order :
      written (record header {
        puts = put Always (codes "C: 1") ∷ put Old (codes "C: 2") ∷ put IfNone (codes "C: 3") ∷ [];
      }) three
      ≡ codes "A: 1\nB: 2\na: 3\nOld-C: 1\nC: 2\n\n"
  -- `-u` and `-U`
  pub first_stays : written (keeping false (codes "A:")) three ≡ codes "A: 1\nB: 2\n\n"
  pub last_stays : written (keeping true (codes "A:")) three ≡ codes "B: 2\na: 3\n\n"
  pub only_one_stays : written (keeping true (codes "B")) three ≡ three
  pub only_first_stays : written (keeping false (codes "B")) three ≡ three
  pub both_in_order :
      written (record header { uniques = unique false (codes "A:") ∷ unique true (codes "B:") ∷ [] })
      (codes "A: 1\nB: 1\nA: 2\nB: 2\n\n")
      ≡ codes "A: 1\nB: 2\n\n"
  -- `-z`: an empty field goes, and the others have a blank after the key
  pub zapped : written (record header { zap = true }) (codes "From a\nA:\nB: \t\n \nC:x\nD: y\nE:\tz\n w\nno field\n\n")
      ≡ codes "From a\nC: x\nD: y\nE:\tz\n w\nno field\n\n"
  -- `-c`: a newline with the blank after it becomes one blank
  pub joined : written (record header { join = true }) (codes "A: 1\n 2\n\t3\n  4\nB: 5\n\n")
      ≡ codes "A: 1 2 3  4\nB: 5\n\n"
  -- the order of the edits
  pub renamed_before_put :
      written (record header {
        renames = rename (codes "B:") (codes "C:") ∷ [];
        puts = put IfNone (codes "C: x") ∷ [];
      }) three
      ≡ codes "A: 1\nC: 2\na: 3\n\n"
  pub put_before_unique :
      written (record header { puts = put Always (codes "A: x") ∷ []; uniques = unique true (codes "A:") ∷ [] }) three
      ≡ codes "B: 2\nA: x\n\n"
  pub unique_before_zapped :
      written (record header { uniques = unique false (codes "A:") ∷ []; zap = true }) (codes "A:\nA: 1\n\n")
      ≡ codes "\n"
  pub zapped_before_joined : written (record header { zap = true; join = true }) (codes "A:\n 1\nB:\n \n\n")
      ≡ codes "A:  1\n\n"
  pub several_edits :
      written (record plain {
        renames = rename (codes "Foo") (codes "Bar") ∷ [];
        puts = put Old (codes "Subject:") ∷ put Replace (codes "To") ∷ put IfNone (codes "Cc:x") ∷ [];
      }) two_subjects
      ≡ codes "From a Thu Jan  1 00:00:00 1970\nOld-Subject: one\nOld-Subject: two\n more\nBar: q\nCc:x\n\nb\n\n"
  -- `-x` and `-X`
  pub contents : written (taking false (codes "Subject")) two_subjects ≡ codes " one\n two\n more\n"
  pub joined_contents : written (record (taking false (codes "Subject")) { join = true }) two_subjects
      ≡ codes " one\n two more\n"
  pub trimmed_contents : written (record (taking false (codes "Subject")) { zap = true }) two_subjects
      ≡ codes "one\ntwo\n more\n"
  pub blanks_after : written (record (taking false (codes "A:")) { zap = true }) (codes "A: 1 \t\n\n") ≡ codes "1\n"
  pub whole_fields : written (taking true (codes "Subject")) two_subjects ≡ codes "Subject: one\nSubject: two\n more\n"
  pub content_of_the_line : written (taking false (codes "From")) two_subjects ≡ codes "a Thu Jan  1 00:00:00 1970\n"
  pub nothing_taken : written (taking false (codes "Cc:")) two_subjects ≡ []
  pub in_the_order_of_fields :
      written (record plain {
        takes = extract false (codes "B:") ∷ extract true (codes "A:") ∷ extract false (codes "A:") ∷ [];
      }) three
      ≡ codes "A: 1\n 1\n 2\na: 3\n 3\n"
  pub taken_after_edits : written (record (taking true (codes "C:")) { puts = put Always (codes "C: x") ∷ [] }) three
      ≡ codes "C: x\n"
  pub taken_with_body : written (record (taking false (codes "A:")) { with_body = true }) (codes "A: 1\n\nFrom b\n")
      ≡ codes " 1\n\n>From b\n"
  pub taken_with_body_kept :
      written (record (taking false (codes "A:")) { with_body = true; keep_body = true }) (codes "A: 1\n\nFrom b\n")
      ≡ codes " 1\n\nFrom b\n"
  pub taken_without_line : edited (split_of (codes "A: 1\n\n")) (taking false (codes "A:")) (Some (codes "From u d\n"))
      ≡ codes " 1\n"
  -- the body: a line that would begin a mail gets the prefix, unless `-b` is given
  pub prefixed : written plain (codes "From a\n\nx\nFrom b\n From c\n>From d\nFrom\n")
      ≡ codes "From a\n\nx\n>From b\n From c\n>From d\nFrom\n\n"
  pub other_prefix : written (record plain { prefix = codes "| " }) (codes "From a\n\nFrom b\n")
      ≡ codes "From a\n\n| From b\n\n"
  pub empty_prefix : written (record plain { prefix = [] }) (codes "From a\n\nFrom b\n") ≡ codes "From a\n\nFrom b\n\n"
  pub body_kept : written (record plain { keep_body = true }) (codes "From a\n\nFrom b\n")
      ≡ codes "From a\n\nFrom b\n\n"
  -- the end: an empty line, unless `-f` is given
  pub open_end : written plain (codes "From a\n\nx") ≡ codes "From a\n\nx\n\n"
  pub last_line_ended : written plain (codes "From a\n\nx\n") ≡ codes "From a\n\nx\n\n"
  pub ends_already : written plain (codes "From a\n\nx\n\n") ≡ codes "From a\n\nx\n\n"
  pub end_kept : written header (codes "From a\n\nx") ≡ codes "From a\n\nx"
  pub no_body : written plain (codes "From a\n\n") ≡ codes "From a\n\n"
  -- the line in front
  pub line_in_front : edited (split_of (codes "A: 1\n\nb\n")) plain (Some (codes "From u d\n"))
      ≡ codes "From u d\nA: 1\n\nb\n\n"
  pub line_made : line_at (pos 0) (split_of three) plain ≡ Some (from_line_of (codes "unknown") (pos 0))
  pub no_line_made : line_at (pos 0) (split_of three) header ≡ None
  -- whom that line is from, and when there is one
  pub return_path : sender plain (codes "A: 1\nReturn-Path: x <a@b> <c>\nReturn-Path: <d>\n\n") ≡ Some (codes "a@b")
  pub no_return_path : sender plain (codes "From: <a@b>\n\n") ≡ Some (codes "unknown")
  pub no_brackets : sender plain (codes "Return-Path: a@b\n\n") ≡ Some (codes "unknown")
  pub empty_brackets : sender plain (codes "Return-Path: <>\n\n") ≡ Some (codes "unknown")
  pub blank_in_brackets : sender plain (codes "Return-Path: <a b>\n\n") ≡ Some (codes "unknown")
  pub byte_33 : sender plain (codes "Return-Path: <!>\n\n") ≡ Some (codes "!")
  pub all_of_addresses : filter is_visible (range_with_len 0 256) ≡ range_with_len 33 223
  pub first_alone_counts : sender plain (codes "Return-Path: <>\nReturn-Path: <d>\n\n") ≡ Some (codes "unknown")
  pub open_brackets : bracketed (codes "a>b<c") ≡ None
  pub closed_brackets : bracketed (codes "a>b<c>d>") ≡ Some (codes "c")
  pub empty_mail : sender plain [] ≡ Some (codes "unknown")
  pub has_a_line : sender plain (codes "From a\n\n") ≡ None
  pub line_was_removed :
      sender (record plain { puts = put Replace (codes "From ") ∷ [] }) (codes "From a\nReturn-Path: <b>\n\n")
      ≡ Some (codes "b")
  pub return_path_was_removed :
      sender (record plain { puts = put Replace (codes "Return-Path:") ∷ [] }) (codes "Return-Path: <b>\n\n")
      ≡ Some (codes "b")
  pub under_option_f : sender header (codes "A: 1\n\n") ≡ None
  pub without_line_when_taking : sender (taking false (codes "A:")) (codes "A: 1\n\n") ≡ None
