-- What stands before the test of a condition (procmailrc(5), "Conditions").
use Rattle.std.specs.Prelude.{◌≡◌, ℕ, zero, suc, ◌||◌, ◌&&◌, Bool, false, not, List, [], ◌∷◌, length, take, drop, codes, nat_eq, bytes_eq, if◌then◌else◌, Option, Some, None}
use Rattle.std.specs.List.{starts_with, position_or_len}
use Rattle.std.proofs.Common.{refl}
use Rattle.pm_bytes.specs.Letter.{is_blank_byte, is_name_start, is_name_byte}
use Rattle.pm_message.specs.declared.areas.Place.TheVariants as place
use Rattle.pm_meaning.specs.declared.question.Scope.{Scope}
use Rattle.pm_meaning.specs.declared.question.Scope.TheVariants.{Flags, Mail, Variable}
use Rattle.pm_meaning.specs.declared.question.Factors.{Factors}
use Rattle.pm_meaning.specs.declared.question.Question.{Question}

-- the byte is no blank
abbrev pub is_no_blank : ℕ → Bool
is_no_blank byte = not (is_blank_byte byte)

-- the text without the blanks at its front
abbrev pub after_blanks : List ℕ → List ℕ
after_blanks text = drop (position_or_len is_no_blank text) text

-- the byte is in no name
abbrev pub ends_name : ℕ → Bool
ends_name byte = not (is_name_byte byte)

-- a name can begin here
abbrev pub begins_name : List ℕ → Bool
begins_name [] = false
begins_name (byte ∷ rest) = is_name_start byte

-- how long the name at the front is, 0 where none stands there
abbrev pub name_length : List ℕ → ℕ
name_length text = if begins_name text then position_or_len ends_name text else 0

-- what stands after the name and blanks
abbrev pub behind_name : List ℕ → List ℕ
behind_name text = after_blanks (drop (name_length text) text)

-- a name, blanks and `??` stand at the front
abbrev pub is_named : List ℕ → Bool
is_named text = begins_name text && starts_with nat_eq (behind_name text) (codes "??")

-- where a condition looks that names this
abbrev pub scope_of : List ℕ → Scope
scope_of name =
    if bytes_eq name (codes "H") then Mail place.H
    else if bytes_eq name (codes "B") then Mail place.B
    else if bytes_eq name (codes "HB") || bytes_eq name (codes "BH") then Mail place.Hb
    else Variable name

-- a text, and what was asked for before it
pub record Asking : Type 0 where
  pub text : List ℕ
  pub question : Question

-- an asking with these parts
abbrev pub asking_of : List ℕ → Question → Asking
asking_of text question = record { text = text; question = question }

-- `!` inverts what follows after blanks, and a name with `??` says where it is looked for
abbrev pub next_asking : Asking → Option Asking
next_asking asking =
    if starts_with nat_eq asking.text (codes "!") then Some (record {
      text = after_blanks (drop 1 asking.text);
      question = record asking.question { inverted = not asking.question.inverted };
    })
    else if is_named asking.text then Some (record {
      text = after_blanks (drop 2 (behind_name asking.text));
      question = record asking.question { scope = scope_of (take (name_length asking.text) asking.text) };
    })
    else None

-- where the test begins, after at most so many of these
abbrev pub asked_within : ℕ → Asking → Asking
asked_within zero asking = asking
asked_within (suc n) asking = elim (next_asking asking) [ Some next ↦ asked_within n next | None ↦ asking ]

-- where the test begins
abbrev pub asked : Asking → Asking
asked asking = asked_within (length asking.text) asking

-- before anything is read after the weight
abbrev pub unasked : Option Factors → List ℕ → Asking
unasked weight text = record { text = text; question = record { weight = weight; inverted = false; scope = Flags } }

-- two inversions cancel, and the last name counts
two_names : asked (unasked None (codes "! B ?? ! NAME  ?? ^x")) ≡ record { text = codes "^x"; question = record { weight = None; inverted = false; scope = Variable (codes "NAME") } }
two_names = refl

-- a name without `??` is the expression
no_name : asked (unasked None (codes "NAME ? x")) ≡ unasked None (codes "NAME ? x")
no_name = refl
