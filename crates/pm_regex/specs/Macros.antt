-- The macros of an expression, and the text after they are replaced.
use Rattle.std.specs.Prelude.{◌≢◌, ℕ, ◌==◌, Bool, ◌&&◌, if◌then◌else◌, List, [], ◌∷◌, ◌++◌, length, drop, nat_eq, codes, Option, Some, None}
use Rattle.std.specs.List.{starts_with}
use Rattle.pm_regex.specs.declared.macros.Macro.{Macro}
use Rattle.pm_regex.specs.declared.macros.Macro.TheVariants.{ToAddress, ToWord, FromDaemon, FromMailer}
use Rattle.pm_regex.specs.Bytes.{BRACKET, CLOSING_BRACKET, BACKSLASH, CARET}

-- what the macros are called
abbrev pub macro_name : Macro → List ℕ
macro_name ToAddress = codes "^TO_"
macro_name ToWord = codes "^TO"
macro_name FromDaemon = codes "^FROM_DAEMON"
macro_name FromMailer = codes "^FROM_MAILER"

-- what stands for them
unfoldable pub macro_text : Macro → List ℕ
macro_text ToAddress =
    codes "(^((Original-)?(Resent-)?(To|Cc|Bcc)|(X-Envelope|Apparently(-Resent)?)-To):(.*[^-a-zA-Z0-9_.])?)"
macro_text ToWord =
    codes "(^((Original-)?(Resent-)?(To|Cc|Bcc)|(X-Envelope|Apparently(-Resent)?)-To):(.*[^a-zA-Z])?)"
macro_text FromDaemon =
    codes "(^(Mailing-List:|Precedence:.*(junk|bulk|list)|To: Multiple recipients of |"
    ++ codes "(((Resent-)?(From|Sender)|X-Envelope-From):|>?From )([^>]*[^(.%@a-z0-9])?("
    ++ codes "Post(ma?(st(e?r)?|n)|office)|(send)?Mail(er)?|daemon|m(mdf|ajordomo)|n?uucp|LIST(SERV|proc)|NETSERV|o(wner|ps)|"
    ++ codes "r(e(quest|sponse)|oot)|b(ounce|bs\\.smtp)|echo|mirror|s(erv(ices?|er)|mtp(error)?|ystem)|"
    ++ codes "A(dmin(istrator)?|MMGR|utoanswer))(([^).!:a-z0-9][-_a-z0-9]*)?[%@>\t ][^<)]*(\\(.*\\).*)?)?$([^>]|$)))"
macro_text FromMailer =
    codes "(^(((Resent-)?(From|Sender)|X-Envelope-From):|>?From )([^>]*[^(.%@a-z0-9])?("
    ++ codes "Post(ma(st(er)?|n)|office)|(send)?Mail(er)?|daemon|mmdf|n?uucp|ops|r(esponse|oot)|(bbs\\.)?smtp(error)?|"
    ++ codes "s(erv(ices?|er)|ystem)|A(dmin(istrator)?|MMGR))"
    ++ codes "(([^).!:a-z0-9][-_a-z0-9]*)?[%@>\t ][^<)]*(\\(.*\\).*)?)?$([^>]|$))"

-- whether the macro stands at the front of the text
abbrev pub is_at : Macro → List ℕ → Bool
is_at m text = starts_with nat_eq text (macro_name m)

-- the macro that stands there, the longest where there are two
abbrev pub macro_at : List ℕ → Option Macro
macro_at text =
    if is_at ToAddress text then Some ToAddress else
    (if is_at ToWord text then Some ToWord else
    (if is_at FromDaemon text then Some FromDaemon else
    (if is_at FromMailer text then Some FromMailer else
    None)))

-- the bytes up to the first `]`, or all
abbrev pub to_bracket : List ℕ → List ℕ
to_bracket [] = []
to_bracket (b ∷ u) = if b == CLOSING_BRACKET then b ∷ [] else b ∷ to_bracket u

-- a bracket expression after its `[` or `[^`; a `]` that stands first doesn't close it
abbrev pub members_text : List ℕ → List ℕ
members_text [] = []
members_text (b ∷ u) = b ∷ to_bracket u

-- a bracket expression after its `[`, with its `^` where it has one
abbrev pub bracket_text : List ℕ → List ℕ
bracket_text [] = []
bracket_text (b ∷ u) = if b == CARET then b ∷ members_text u else members_text (b ∷ u)

-- where no macro stands: two bytes where the text begins with `\` or with two carets, a bracket expression, or one
-- byte
abbrev pub span_after : ℕ → List ℕ → List ℕ
span_after b [] = b ∷ []
span_after b (c ∷ u) =
    if b == BACKSLASH then b ∷ c ∷ [] else
    (if b == BRACKET then b ∷ bracket_text (c ∷ u) else
    (if (b == CARET) && (c == CARET) then b ∷ c ∷ [] else
    b ∷ []))

-- the first part of a text at which no macro is: its first byte, with what belongs to that; nothing of an empty text
abbrev pub plain_span : List ℕ → List ℕ
plain_span [] = []
plain_span (b ∷ u) = span_after b u

-- the first part of a text: a macro or what else stands there
abbrev pub span_of : Option Macro → List ℕ → List ℕ
span_of None text = plain_span text
span_of (Some m) text = macro_name m

-- what is put for it
abbrev pub put_for : Option Macro → List ℕ → List ℕ
put_for None text = plain_span text
put_for (Some m) text = macro_text m

-- the second text is the first after its macros are replaced, part by part from the left
pub data Expands : List ℕ → List ℕ → Type 0 where
  done : Expands [] []
  part : (text after : List ℕ) → text ≢ [] → Expands (drop (length (span_of (macro_at text) text)) text) after →
      Expands text (put_for (macro_at text) text ++ after)
