-- Expressions and how they are read, part by part.
use Rattle.std.specs.Prelude.{ℕ, ◌≤◌, Bool, List, [], ◌∷◌, ◌++◌, ◌≡◌, Option, Some, None, true, false, not, map, length, nat_eq, codes}
use Rattle.std.specs.List.{filter, range_with_len}
use Rattle.pm_regex.specs.declared.sign.Sign.{Sign}
use Rattle.pm_regex.specs.declared.sign.Sign.TheVariants.{Open, Close, One}
use Rattle.pm_regex.specs.declared.macros.Macro.TheVariants.{ToAddress, ToWord, FromDaemon, FromMailer}
use Rattle.pm_regex.specs.declared.op.Atom.TheVariants.{Byte, Any, LineStart, LineEnd, WordStart, WordEnd, AreaStart, AreaEnd}
use Rattle.pm_regex.specs.declared.op.Times.TheVariants.{Star, Plus, Maybe}
use Rattle.pm_regex.specs.Bytes.{first_of}
use Rattle.pm_regex.specs.Grammar.{IsExpr, IsPiece, IsWhole, Stand}
use Rattle.pm_regex.specs.Macros.{macro_at, macro_text, plain_span, Expands}
use Rattle.pm_regex.specs.Re.{Re, nothing, one, set, seq, either, times, Whole}
use Rattle.pm_regex.specs.Reading.{Reads, ReadsTokens}
use Rattle.pm_regex.specs.Tokens.{Token, IsTokens, sign, sign_of, escaped_sign}

-- a branch of these pieces, one after the other
abbrev pub branch_from : Re → List Re → Re
branch_from before [] = before
branch_from before (piece ∷ pieces) = branch_from (seq before piece) pieces

abbrev pub branch : List Re → Re
branch pieces = branch_from nothing pieces

-- the piece that is the first byte of this text
abbrev pub byte : List ℕ → Re
byte text = one (Byte (first_of text))

-- the pieces that are the bytes of this text
abbrev pub bytes : List ℕ → List Re
bytes text = map (λ b. one (Byte b)) text

-- the text is read as this expression, without a cut, and with what stands left of one
abbrev pub IsRead : List ℕ → Re → Type 0
IsRead text e = ReadsTokens text (record { left = None; right = e })

abbrev pub IsReadWithCut : List ℕ → Re → Re → Type 0
IsReadWithCut text left right = ReadsTokens text (record { left = Some left; right = right })

-- the text is no expression
abbrev pub IsNone : List ℕ → Type 0
IsNone text = (e : Whole) → ReadsTokens text e → ⊥

-- whether a sign is this byte and no more
abbrev pub is_itself : ℕ → Option Sign → Bool
is_itself b (Some (One (Byte c))) = nat_eq c b
is_itself b other = false

-- the bytes of which what they spell is more than themselves
abbrev pub signs : (ℕ → Option Sign) → List ℕ
signs spelled = filter (λ b. not (is_itself b (spelled b))) (range_with_len 0 256)

-- what holds of macros
pub record OfMacros : Type 0 where
  -- the longest macro at the front of a text; their names are in capitals
  pub to_address : macro_at (codes "^TO_me@") ≡ Some ToAddress
  pub to_word : macro_at (codes "^TOme") ≡ Some ToWord
  pub from_daemon : macro_at (codes "^FROM_DAEMON") ≡ Some FromDaemon
  pub from_mailer : macro_at (codes "^FROM_MAILER") ≡ Some FromMailer
  pub no_macro : macro_at (codes "^FROM_") ≡ None
  pub no_caret : macro_at (codes "TO_me") ≡ None
  pub small_letters : macro_at (codes "^to_me") ≡ None
  -- what stands for them, as the manual has it
  pub to_address_text : macro_text ToAddress
      ≡ codes "(^((Original-)?(Resent-)?(To|Cc|Bcc)|(X-Envelope"
      ++ codes "|Apparently(-Resent)?)-To):(.*[^-a-zA-Z0-9_.])?)"
  pub to_word_text : macro_text ToWord
      ≡ codes "(^((Original-)?(Resent-)?(To|Cc|Bcc)|(X-Envelope"
      ++ codes "|Apparently(-Resent)?)-To):(.*[^a-zA-Z])?)"
  pub from_daemon_text : macro_text FromDaemon
      ≡ codes "(^(Mailing-List:|Precedence:.*(junk|bulk|list)|To: Multiple recipients of |(((Resent-)?(From|Sender)|"
      ++ codes "X-Envelope-From):|>?From )([^>]*[^(.%@a-z0-9])?(Post(ma?(st(e?r)?|n)|office)|(send)?Mail(er)?|daemon|"
      ++ codes "m(mdf|ajordomo)|n?uucp|LIST(SERV|proc)|NETSERV|o(wner|ps)|r(e(quest|sponse)|oot)|b(ounce|bs\\.smtp)|echo|"
      ++ codes "mirror|s(erv(ices?|er)|mtp(error)?|ystem)|A(dmin(istrator)?|MMGR|utoanswer))"
      ++ codes "(([^).!:a-z0-9][-_a-z0-9]*)?[%@>\t ][^<)]*(\\(.*\\).*)?)?$([^>]|$)))"
  pub from_mailer_text : macro_text FromMailer
      ≡ codes "(^(((Resent-)?(From|Sender)|X-Envelope-From):|>?From )([^>]*[^(.%@a-z0-9])?(Post(ma(st(er)?|n)|office)|"
      ++ codes "(send)?Mail(er)?|daemon|mmdf|n?uucp|ops|r(esponse|oot)|(bbs\\.)?smtp(error)?|s(erv(ices?|er)|ystem)|"
      ++ codes "A(dmin(istrator)?|MMGR))(([^).!:a-z0-9][-_a-z0-9]*)?[%@>\t ][^<)]*(\\(.*\\).*)?)?$([^>]|$))"
  -- where none stands, the part that is passed over: two bytes, a bracket expression, or one byte
  pub escaped_caret : plain_span (codes "\\^TO") ≡ codes "\\^"
  pub two_carets : plain_span (codes "^^TO") ≡ codes "^^"
  pub in_brackets : plain_span (codes "[^TO_]x") ≡ codes "[^TO_]"
  pub bracket_first : plain_span (codes "[]^TO]x") ≡ codes "[]^TO]"
  pub bracket_after_caret : plain_span (codes "[^]^TO]x") ≡ codes "[^]^TO]"
  pub open_bracket : plain_span (codes "[^TO") ≡ codes "[^TO"
  pub one_byte : plain_span (codes "^a") ≡ codes "^"
  pub last_backslash : plain_span (codes "\\") ≡ codes "\\"
  -- a text after its macros are replaced, from the left
  pub replaced : Expands (codes "a^TOb\\^TO^TO_c") (codes "a" ++ macro_text ToWord ++ codes "b\\^TO" ++ macro_text ToAddress ++ codes "c")

-- what holds of expressions
pub record OfExpressions : Type 0 where
  -- each sign; a byte that is none is itself, and so is one after a backslash
  pub empty : IsRead (codes "") nothing
  pub letters : IsRead (codes "a]-") (branch (bytes (codes "a]-")))
  pub line : IsRead (codes "^.$") (branch (one LineStart ∷ one Any ∷ one LineEnd ∷ []))
  pub edges_of_words : IsRead (codes "\\<a\\>") (branch (one WordStart ∷ byte (codes "a") ∷ one WordEnd ∷ []))
  pub escaped : IsRead (codes "\\.\\*\\n\\\\") (branch (bytes (codes ".*n\\")))
  -- all bytes that are signs by themselves, or after a backslash
  pub all_signs : signs sign_of ≡ codes "$()*+.?[\\^|"
  pub all_escaped : signs (λ b. Some (escaped_sign b)) ≡ codes "/<>"
  -- a repeat is of the piece before it, and at the front of a branch a byte
  pub repeats : IsRead (codes "a*b+c?d")
      (branch (times Star (byte (codes "a")) ∷ times Plus (byte (codes "b")) ∷ times Maybe (byte (codes "c")) ∷ byte (codes "d") ∷ []))
  pub repeated_twice : IsRead (codes "a*?") (branch (times Maybe (times Star (byte (codes "a"))) ∷ []))
  pub at_the_front : IsRead (codes "+a|*|?") (either (either (branch (bytes (codes "+a"))) (branch (bytes (codes "*")))) (branch (bytes (codes "?"))))
  -- a bar has the whole branches on both sides, and parentheses make one piece
  pub bar : IsRead (codes "ab|") (either (branch (bytes (codes "ab"))) nothing)
  pub group : IsRead (codes "a(b|+c)*") (branch (byte (codes "a") ∷ times Star (either (branch (bytes (codes "b"))) (branch (bytes (codes "+c")))) ∷ []))
  pub empty_group : IsRead (codes "()") (branch (nothing ∷ []))
  -- two carets are the start of the area at the front of a branch, and else its end
  pub area : IsRead (codes "^^a^^") (branch (one AreaStart ∷ byte (codes "a") ∷ one AreaEnd ∷ []))
  pub start_in_group : IsRead (codes "a(^^)") (branch (byte (codes "a") ∷ branch (one AreaStart ∷ []) ∷ []))
  -- the cut; directly after it two carets are the end of the area
  pub cut : IsReadWithCut (codes "a|b\\/*c") (either (branch (bytes (codes "a"))) (branch (bytes (codes "b")))) (branch (bytes (codes "*c")))
  pub end_after_cut : IsReadWithCut (codes "\\/^^|^^") nothing (either (branch (one AreaEnd ∷ [])) (branch (one AreaStart ∷ [])))
  -- bracket expressions: ranges, a `]` that stands first, a `-` at the end, and a `^`
  pub ranges : IsRead (codes "[a-cx]") (branch (set false ((97, 99) ∷ (120, 120) ∷ []) ∷ []))
  pub range_of_one : IsRead (codes "[a-a]") (branch (set false ((97, 97) ∷ []) ∷ []))
  pub bracket_first : IsRead (codes "[]a-]") (branch (set false ((93, 93) ∷ (97, 97) ∷ (45, 45) ∷ []) ∷ []))
  pub others : IsRead (codes "[^^]") (branch (set true ((94, 94) ∷ []) ∷ []))
  -- no expressions: a parenthesis or a backslash alone, a second cut or one in parentheses, and a range downward
  pub open_parenthesis : IsNone (codes "(a")
  pub stray_parenthesis : IsNone (codes "a)")
  pub second_cut : IsNone (codes "\\/a\\/")
  pub cut_in_parentheses : IsNone (codes "(\\/)")
  pub backslash_alone : IsNone (codes "\\")
  pub downward : IsNone (codes "[b-a]")
  -- 200 parentheses may be open, and 65,536 bytes be there after the macros
  pub parenthesis_200 : (s : Stand) (u : List Token) (e : Re) → IsExpr 200 false u e
      → IsPiece 199 s (sign Open ∷ u ++ sign Close ∷ []) e
  pub no_more_bytes : (text : List ℕ) (e : Whole) (r : Reads text e) → length r.after ≤ 65536
  pub as_many_bytes : (text after : List ℕ) (tokens : List Token) (e : Whole) → Expands text after
      → length after ≤ 65536 → IsTokens after tokens → IsWhole tokens e → Reads text e
