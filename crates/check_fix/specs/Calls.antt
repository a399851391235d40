-- Calls of formail, as docs/MOVING.md, "formail", has them.
use Rattle.std.specs.Prelude.{ℕ, ◌+◌, Bool, not, ◌||◌, ◌&&◌, List, [], ◌++◌, drop, length, nat_eq, codes, if◌then◌else◌, position}
use Rattle.std.specs.List.{starts_with}
use Rattle.check_moving.specs.Text.{after_blanks, from_place, has_part}
use Rattle.check_moving.specs.Words.{is_break_byte}
use Rattle.check_fix.specs.Edits.{edit_at}
use Rattle.check_fix.specs.Parts.{before, after_digits, ends_command, from_part, is_above}
use Rattle.check_fix.specs.declared.edits.Edit.{Edit}

-- a part with which a command ends
abbrev pub whole_call : List ℕ → List ℕ → List ℕ
whole_call part text =
    if ends_command (after_blanks (drop (length part) (from_part part text))) then from_part part text else []

-- another command
abbrev pub call_edits : ℕ → List ℕ → List ℕ → List ℕ → List Edit
call_edits first text part new = edit_at first text (whole_call part text) (length part) new

-- `formail -X ""`: the header
abbrev pub header_edits : ℕ → List ℕ → List Edit
header_edits first text =
    call_edits first text (codes " formail -X \"\"") (codes " sed -e '/^$/q'")
    ++ (call_edits first text (codes " formail -X ''") (codes " sed -e '/^$/q'")
    ++ (call_edits first text (codes " $FORMAIL -X \"\"") (codes " sed -e '/^$/q'")
    ++ call_edits first text (codes " $FORMAIL -X ''") (codes " sed -e '/^$/q'")))

-- `formail -I ""`: the empty line and the body
abbrev pub body_edits : ℕ → List ℕ → List Edit
body_edits first text =
    call_edits first text (codes " formail -I \"\"") (codes " sed -n -e '/^$/,$p'")
    ++ (call_edits first text (codes " formail -I ''") (codes " sed -n -e '/^$/,$p'")
    ++ (call_edits first text (codes " $FORMAIL -I \"\"") (codes " sed -n -e '/^$/,$p'")
    ++ call_edits first text (codes " $FORMAIL -I ''") (codes " sed -n -e '/^$/,$p'")))

-- both
abbrev pub empty_edits : ℕ → List ℕ → List Edit
empty_edits first text = header_edits first text ++ body_edits first text

-- the letters of a reply
abbrev pub is_reply_letter : ℕ → Bool
is_reply_letter byte = nat_eq byte 114 || nat_eq byte 116

-- what follows them
abbrev pub after_reply : List ℕ → List ℕ
after_reply text = from_place text (position (λ byte. not (is_reply_letter byte)) text)

-- `z`, `x` or `X`
abbrev pub begins_field : List ℕ → Bool
begins_field text =
    starts_with nat_eq text (codes "z") || starts_with nat_eq text (codes "x") || starts_with nat_eq text (codes "X")

-- a field is asked for by letters of the same word
abbrev pub same_word : List ℕ → List ℕ
same_word text = if begins_field text then text else []

-- or of the next one
abbrev pub next_word : List ℕ → List ℕ
next_word text =
    if starts_with nat_eq text (codes " ") && starts_with nat_eq (after_blanks text) (codes "-")
    && begins_field (drop 1 (after_blanks text)) then text else []

-- what follows the letters of the first reply of this program
abbrev pub reply_of : List ℕ → List ℕ → List ℕ
reply_of program text = after_reply (drop (length program + 3) (from_part (program ++ codes " -r") text))

-- what is asked for by letters is asked of the reply
abbrev pub split_edits : ℕ → List ℕ → List ℕ → List Edit
split_edits first text program =
    edit_at first text (same_word (reply_of program text)) 0 ((codes " | " ++ program) ++ codes " -")
    ++ edit_at first text (next_word (reply_of program text)) 0 (codes " | " ++ program)

-- from the end of a command on
abbrev pub from_break : List ℕ → List ℕ
from_break text = from_place text (position (λ byte. is_break_byte byte) text)

-- `-R` and its names
abbrev pub renaming : List ℕ → List ℕ
renaming text = before text (from_break text)

-- and no other option
abbrev pub is_renaming : List ℕ → Bool
is_renaming text = starts_with nat_eq text (codes " -R ") && not (has_part (codes " -") (drop 3 (renaming text)))

-- the letters of the first reply of this program
abbrev pub reply_start : List ℕ → List ℕ → List ℕ
reply_start program text = drop (length program) (from_part (program ++ codes " -r") text)

-- `formail -rt -R a b`: `formail -f -R a b | formail -rt | formail -f -R a b`, as the fields of the mail are renamed before
-- those of the reply, and neither run is to make a line From
abbrev pub rename_edits : ℕ → List ℕ → List ℕ → List Edit
rename_edits first text program =
    edit_at first text (reply_start program text) 0 ((codes " -f" ++ renaming (reply_of program text)) ++ (codes " | " ++ program))
    ++ edit_at first text (reply_of program text) 0 ((codes " | " ++ program) ++ codes " -f")

-- by the name of the program, and unless it has a path
abbrev pub replied_by : ℕ → List ℕ → List ℕ → List Edit
replied_by first text program =
    if has_part (codes "/" ++ program) text then []
    else if is_renaming (reply_of program text) then rename_edits first text program
    else split_edits first text program

-- `formail -rtzxTo:`: `formail -rt | formail -zxTo:`
abbrev pub reply_edits : ℕ → List ℕ → List Edit
reply_edits first text =
    replied_by first text (codes "formail") ++ (replied_by first text (codes "$FORMAIL") ++ replied_by first text (codes "${FORMAIL}"))

-- an option more
abbrev pub option_at : ℕ → List ℕ → List ℕ → List Edit
option_at first text part = edit_at first text (from_part part text) 0 (codes " -f")

-- `formail -I 'From '`: `formail -f -I 'From '`
abbrev pub removed_edits : ℕ → List ℕ → List Edit
removed_edits first text =
    option_at first text (codes " -I \"From \"") ++ (option_at first text (codes " -I 'From '")
    ++ (option_at first text (codes " -I\"From \"") ++ option_at first text (codes " -I'From '")))

-- the length of a cache, and what follows it
abbrev pub cache_length : List ℕ → List ℕ
cache_length text = after_blanks (drop 3 (from_part (codes " -D") text))

-- `formail -D 2000000`: `formail -D 1048576`
abbrev pub length_edits : ℕ → List ℕ → List Edit
length_edits first text =
    if is_above 1048576 (cache_length text)
    then edit_at first text (cache_length text)
    (length (before (cache_length text) (after_digits (cache_length text)))) (codes "1048576")
    else []

-- `formail -f >>out`: `formail >>out`
abbrev pub appended_edits : ℕ → List ℕ → List Edit
appended_edits first text = edit_at first text (drop 7 (from_part (codes "formail -f >>") text)) 3 []

-- `formail -q- -D`: `formail -D`
abbrev pub quiet_edits : ℕ → List ℕ → List Edit
quiet_edits first text =
    edit_at first text (drop 7 (from_part (codes "formail -q- -") text)) 4 []
    ++ edit_at first text (drop 7 (from_part (codes "formail -q -") text)) 3 []

-- `formail -tx`: `formail -x`; `formail -t`: `formail`
abbrev pub trust_edits : ℕ → List ℕ → List Edit
trust_edits first text =
    if begins_field (drop 10 (from_part (codes "formail -t") text))
    then edit_at first text (drop 9 (from_part (codes "formail -t") text)) 1 []
    else edit_at first text (drop 7 (whole_call (codes "formail -t") text)) 3 []
