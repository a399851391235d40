-- A text as tokens: what stands at the front, and then the tokens after it.
use Rattle.std.specs.Prelude.{ℕ, zero, suc, ◌-◌, List, [], ◌∷◌, if◌then◌else◌, nat_lt, Bool, false, true, not, ◌&&◌, count_by, slice_range}
use Rattle.pm_subst.specs.declared.kinds.Rule.{Rule}
use Rattle.pm_subst.specs.declared.kinds.Frame.{Frame}
use Rattle.pm_subst.specs.declared.kinds.Frame.TheVariants.{Quotes, Form, QuotedForm}
use Rattle.pm_subst.specs.declared.kinds.Front.{Front}
use Rattle.pm_subst.specs.declared.kinds.Kind.{Kind}
use Rattle.pm_subst.specs.declared.kinds.Kind.TheVariants.{Space, QuotesOpen, QuotesClose, Join, FormOpen, FormClose}
use Rattle.pm_subst.specs.declared.kinds.Mode.{Mode}
use Rattle.pm_subst.specs.declared.kinds.Mode.TheVariants.{Quoted, Many}
use Rattle.pm_subst.specs.Front.{front_of}

-- whether the text is split into words
abbrev pub is_many : Mode → Bool
is_many Many = true
is_many _ = false

-- whether a place after these open quotes and forms, the innermost first, is inside double quotes
abbrev pub is_quoted : Mode → List Frame → Bool
is_quoted Quoted [] = true
is_quoted mode [] = false
is_quoted mode (Form ∷ frames) = false
is_quoted mode (_ ∷ frames) = true

-- whether a form is open and not quotes
abbrev pub is_form : Frame → Bool
is_form Quotes = false
is_form _ = true

-- the innermost passes the test
abbrev pub innermost : (Frame → Bool) → List Frame → Bool
innermost test [] = false
innermost test (frame ∷ frames) = test frame

-- as many forms may be nested
abbrev pub most_forms : ℕ
most_forms = 32

-- The rules in force after these open quotes and forms. A word is fresh before its first byte.
abbrev pub rule_of : Mode → List Frame → Bool → Rule
rule_of mode frames fresh = record {
  quoted = is_quoted mode frames;
  ends_quotes = innermost (λ frame. not (is_form frame)) frames;
  ends_form = innermost is_form frames;
  may_end = fresh && is_many mode;
  may_open = nat_lt (count_by is_form frames) most_forms;
}

-- without the innermost
abbrev pub without_first : List Frame → List Frame
without_first [] = []
without_first (frame ∷ frames) = frames

-- what is open after a front of this kind
abbrev pub frames_after : Kind → Bool → List Frame → List Frame
frames_after QuotesOpen quoted frames = Quotes ∷ frames
frames_after (FormOpen test) quoted frames = (if quoted then QuotedForm else Form) ∷ frames
frames_after QuotesClose quoted frames = without_first frames
frames_after FormClose quoted frames = without_first frames
frames_after _ quoted frames = frames

-- whether a word is fresh after it
abbrev pub fresh_after : Kind → Bool → Bool
fresh_after Space fresh = true
fresh_after Join fresh = fresh
fresh_after _ fresh = false

-- a front with its bytes, inside double quotes or not
pub record Token : Type 0 where
  pub kind : Kind
  pub quoted : Bool
  pub text : List ℕ

-- a token of this kind and text
abbrev pub token : Kind → Bool → List ℕ → Token
token kind quoted text = record { kind = kind; quoted = quoted; text = text }

-- the token of a front of a text
abbrev pub token_of : Front → Bool → List ℕ → Token
token_of front quoted text = token front.kind quoted (slice_range text front.from front.to)

-- the tokens of a text after so many bytes that are passed over
abbrev pub tokens : Mode → ℕ → List Frame → Bool → List ℕ → List Token
tokens mode skip frames fresh [] = []
tokens mode (suc skip) frames fresh (byte ∷ bytes) = tokens mode skip frames fresh bytes
tokens mode zero frames fresh (byte ∷ bytes) =
    let rule = rule_of mode frames fresh in
    let front = front_of rule (byte ∷ bytes) in
    token_of front rule.quoted (byte ∷ bytes)
    ∷ tokens mode (front.taken - 1) (frames_after front.kind rule.quoted frames) (fresh_after front.kind fresh) bytes
