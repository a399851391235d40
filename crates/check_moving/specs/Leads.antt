-- What stands before an expression: `!`, `$`, and names with `??` (procmailrc(5), "Conditions").
use Rattle.std.specs.Prelude.{ℕ, Bool, true, false, not, ◌||◌, ◌&&◌, List, [], ◌∷◌, drop, nat_eq, if◌then◌else◌, codes}
use Rattle.std.specs.List.{starts_with}
use Rattle.pm_bytes.specs.Letter.{is_name_start}
use Rattle.check_moving.specs.Text.{after_blanks, behind_name}
use Rattle.check_moving.specs.declared.leads.Lead.{Lead}

-- what was read, and the text after it
pub record Front : Type 0 where
  pub expands : Bool
  pub inverted : Bool
  pub named : Bool
  pub text : List ℕ

-- the same as the code has it
abbrev pub front_in : Lead → Front
front_in lead = record { expands = lead.expands; inverted = lead.inverted; named = lead.named; text = lead.text.now }

-- a name can begin here
abbrev pub begins_name_at : List ℕ → Bool
begins_name_at [] = false
begins_name_at (byte ∷ rest) = is_name_start byte

-- a name with `??`
abbrev pub asks : List ℕ → Bool
asks text = begins_name_at text && starts_with nat_eq (after_blanks (behind_name text)) (codes "??")

-- a `$` that is the first one
abbrev pub is_dollar : Front → Bool
is_dollar front = not front.expands && starts_with nat_eq front.text (codes "$")

-- whether one more stands here
abbrev pub goes_on : Front → Bool
goes_on front = starts_with nat_eq front.text (codes "!") || is_dollar front || asks front.text

-- what is read then
abbrev pub next : Front → Front
next front =
    if starts_with nat_eq front.text (codes "!")
    then record { expands = front.expands; inverted = not front.inverted; named = front.named; text = after_blanks (drop 1 front.text) }
    else if is_dollar front
    then record { expands = true; inverted = front.inverted; named = front.named; text = after_blanks (drop 1 front.text) }
    else record { expands = front.expands; inverted = front.inverted; named = true; text = after_blanks (drop 2 (after_blanks (behind_name front.text))) }

-- all that is read, in no more steps than there are bytes
abbrev pub all_read : List ℕ → Front → Front
all_read [] front = front
all_read (byte ∷ bytes) front = if goes_on front then all_read bytes (next front) else front

-- before anything is read
abbrev pub unread : List ℕ → Front
unread text = record { expands = false; inverted = false; named = false; text = after_blanks text }

-- what stands before the expression of a text, and the expression
abbrev pub front_of : List ℕ → Front
front_of text = all_read text (unread text)
