-- How the expressions are cut into tokens, and what those spell.
use Rattle.std.specs.Prelude.{codes}
use Rattle.std.proofs.Common.{◌≡◌, ◌<◌, ℕ, true, false, List, [], ◌∷◌, ◌++◌, length, Some, None, refl, sym, ◌∙◌, ap, arith}
use Rattle.pm_regex.specs.declared.sign.Sign.{Sign}
use Rattle.pm_regex.specs.declared.sign.Sign.TheVariants.{Edge, One}
use Rattle.pm_regex.specs.declared.op.Atom.TheVariants.{LineStart}
use Rattle.pm_regex.specs.declared.macros.Macro.TheVariants.{ToAddress, ToWord, FromDaemon, FromMailer}
use Rattle.pm_regex.specs.Re.{Whole}
use Rattle.pm_regex.specs.Macros.{macro_text, Expands, done, part}
use Rattle.pm_regex.specs.Tokens.{Token, sign, bracket, sign_of, escaped_sign, begins_with, range, byte, closed, more, Body, body, plain, escape, edge, line_start, members, others, IsTokens, none, next}
use Rattle.pm_regex.specs.Grammar.{group}
use Rattle.pm_regex.specs.Sets.{HasNoBody}
use Rattle.pm_regex.specs.Signs.{HasNoToken}
use Rattle.pm_regex.specs.Machine.{reading}
use Rattle.pm_regex.specs.Reading.{ReadsTokens}
use Rattle.pm_regex.specs.Examples.{IsNone}
use Rattle.pm_regex.proofs.Complete.{whole_reads}
use Rattle.pm_regex.proofs.Sound.{reads_whole}
use Rattle.pm_regex.proofs.SetLemmas.{parts}
use Rattle.pm_regex.proofs.TokenLemmas.{no_bracket, sign_front}
use Rattle.pm_regex.proofs.ReadLemmas.{has_first, one_tokens}
use Rattle.pm_regex.proofs.ReadOrNot.{no_range}
use Rattle.pm_regex.proofs.laws.examples.Goals as goal

-- one token more in front
a_sign : {b : ℕ} {s : Sign} {rest : List ℕ} {ts : List Token} → sign_of b ≡ Some s → IsTokens rest ts → IsTokens (b ∷ rest) (sign s ∷ ts)
a_sign {b = b} {s = s} {rest = rest} {ts = ts} is rest_is = next (b ∷ rest) rest (sign s) ts (plain b s rest is) rest_is

an_escape : {b : ℕ} {rest : List ℕ} {ts : List Token} → IsTokens rest ts → IsTokens (92 ∷ b ∷ rest) (sign (escaped_sign b) ∷ ts)
an_escape {b = b} {rest = rest} {ts = ts} rest_is = next (92 ∷ b ∷ rest) rest (sign (escaped_sign b)) ts (escape b rest) rest_is

an_edge : {rest : List ℕ} {ts : List Token} → IsTokens rest ts → IsTokens (94 ∷ 94 ∷ rest) (sign Edge ∷ ts)
an_edge {rest = rest} {ts = ts} rest_is = next (94 ∷ 94 ∷ rest) rest (sign Edge) ts (edge rest) rest_is

a_start : {rest : List ℕ} {ts : List Token} → begins_with 94 rest ≡ false → IsTokens rest ts → IsTokens (94 ∷ rest) (sign (One LineStart) ∷ ts)
a_start {rest = rest} {ts = ts} is rest_is = next (94 ∷ rest) rest (sign (One LineStart)) ts (line_start rest is) rest_is

some_bytes : {u rest : List ℕ} {rs : List (ℕ × ℕ)} {ts : List Token} → begins_with 94 u ≡ false → Body u rs rest → IsTokens rest ts → IsTokens (91 ∷ u) (bracket false rs ∷ ts)
some_bytes {u = u} {rest = rest} {rs = rs} {ts = ts} is b rest_is = next (91 ∷ u) rest (bracket false rs) ts (members u rest rs is b) rest_is

other_bytes : {u rest : List ℕ} {rs : List (ℕ × ℕ)} {ts : List Token} → Body u rs rest → IsTokens rest ts → IsTokens (91 ∷ 94 ∷ u) (bracket true rs ∷ ts)
other_bytes {u = u} {rest = rest} {rs = rs} {ts = ts} b rest_is = next (91 ∷ 94 ∷ u) rest (bracket true rs) ts (others u rest rs b) rest_is

-- tokens that spell an expression, and some that spell none
is_read : (text : List ℕ) (e : Whole) (ts : List Token) → IsTokens text ts → reading ts ≡ Some e → ReadsTokens text e
is_read text e ts cut is = record { tokens = ts; cut = cut; spelled = reads_whole ts e is }

not_read : (text : List ℕ) (ts : List Token) → IsTokens text ts → reading ts ≡ None → IsNone text
not_read text ts cut is e r =
    let tokens = one_tokens text r.tokens ts r.cut cut in
    let spelled : Some e ≡ None = sym (whole_reads r.tokens e r.spelled) ∙ ap reading tokens ∙ is in
    cc

-- where no token stands in front, no expression does
no_first_token : (text : List ℕ) → 0 < length text → HasNoToken text → IsNone text
no_first_token text some lacks e r = (let h = has_first text r.tokens some r.cut in lacks h.token h.rest h.first)

alone : HasNoToken (92 ∷ [])
alone t rest f = (let e = sign_front (92 ∷ []) t rest f refl in cc)

reversed : HasNoBody (98 ∷ 45 ∷ 97 ∷ 93 ∷ [])
reversed rs rest h =
    let p = parts (98 ∷ 45 ∷ 97 ∷ 93 ∷ []) rs rest h in
    no_range 98 45 97 (93 ∷ []) refl (omega arith) p.0 p.1 p.2 p.4

-- the texts of macros
to_address_text : macro_text ToAddress ≡ codes "(^((Original-)?(Resent-)?(To|Cc|Bcc)|(X-Envelope" ++ codes "|Apparently(-Resent)?)-To):(.*[^-a-zA-Z0-9_.])?)"
unfolding macro_text
to_address_text = refl

from_daemon_text : macro_text FromDaemon
    ≡ codes "(^(Mailing-List:|Precedence:.*(junk|bulk|list)|To: Multiple recipients of |(((Resent-)?(From|Sender)|"
    ++ codes "X-Envelope-From):|>?From )([^>]*[^(.%@a-z0-9])?(Post(ma?(st(e?r)?|n)|office)|(send)?Mail(er)?|daemon|"
    ++ codes "m(mdf|ajordomo)|n?uucp|LIST(SERV|proc)|NETSERV|o(wner|ps)|r(e(quest|sponse)|oot)|b(ounce|bs\\.smtp)|echo|"
    ++ codes "mirror|s(erv(ices?|er)|mtp(error)?|ystem)|A(dmin(istrator)?|MMGR|utoanswer))"
    ++ codes "(([^).!:a-z0-9][-_a-z0-9]*)?[%@>\t ][^<)]*(\\(.*\\).*)?)?$([^>]|$)))"
unfolding macro_text
from_daemon_text = refl

from_mailer_text : macro_text FromMailer
    ≡ codes "(^(((Resent-)?(From|Sender)|X-Envelope-From):|>?From )([^>]*[^(.%@a-z0-9])?(Post(ma(st(er)?|n)|office)|"
    ++ codes "(send)?Mail(er)?|daemon|mmdf|n?uucp|ops|r(esponse|oot)|(bbs\\.)?smtp(error)?|s(erv(ices?|er)|ystem)|"
    ++ codes "A(dmin(istrator)?|MMGR))(([^).!:a-z0-9][-_a-z0-9]*)?[%@>\t ][^<)]*(\\(.*\\).*)?)?$([^>]|$))"
unfolding macro_text
from_mailer_text = refl

to_word_text : macro_text ToWord ≡ codes "(^((Original-)?(Resent-)?(To|Cc|Bcc)|(X-Envelope" ++ codes "|Apparently(-Resent)?)-To):(.*[^a-zA-Z])?)"
unfolding macro_text
to_word_text = refl

-- the bytes and macros of a text are replaced one after another
replaced : Expands (codes "a^TOb\\^TO^TO_c") (codes "a" ++ macro_text ToWord ++ codes "b\\^TO" ++ macro_text ToAddress ++ codes "c")
unfolding macro_text
replaced =
    part (codes "a^TOb\\^TO^TO_c") _ (λ e. cc) (part (codes "^TOb\\^TO^TO_c") _ (λ e. cc) (part (codes "b\\^TO^TO_c") _ (λ e. cc)
    (part (codes "\\^TO^TO_c") _ (λ e. cc) (part (codes "TO^TO_c") _ (λ e. cc) (part (codes "O^TO_c") _ (λ e. cc)
    (part (codes "^TO_c") _ (λ e. cc) (part (codes "c") _ (λ e. cc) done)))))))

pub returns-clause-macros : goal.returns-clause-macros
returns-clause-macros c = record {
  to_address = refl;
  to_word = refl;
  from_daemon = refl;
  from_mailer = refl;
  no_macro = refl;
  no_caret = refl;
  small_letters = refl;
  to_address_text = to_address_text;
  to_word_text = to_word_text;
  from_daemon_text = from_daemon_text;
  from_mailer_text = from_mailer_text;
  escaped_caret = refl;
  two_carets = refl;
  in_brackets = refl;
  bracket_first = refl;
  bracket_after_caret = refl;
  open_bracket = refl;
  one_byte = refl;
  last_backslash = refl;
  replaced = replaced;
}

pub returns-clause-expressions : goal.returns-clause-expressions
returns-clause-expressions c = record {
  empty = is_read _ _ _ none refl;
  letters = is_read _ _ _ (a_sign refl (a_sign refl (a_sign refl none))) refl;
  line = is_read _ _ _ (a_start refl (a_sign refl (a_sign refl none))) refl;
  edges_of_words = is_read _ _ _ (an_escape (a_sign refl (an_escape none))) refl;
  escaped = is_read _ _ _ (an_escape (an_escape (an_escape (an_escape none)))) refl;
  all_signs = refl;
  all_escaped = refl;
  repeats = is_read _ _ _ (a_sign refl (a_sign refl (a_sign refl (a_sign refl (a_sign refl (a_sign refl (a_sign refl none))))))) refl;
  repeated_twice = is_read _ _ _ (a_sign refl (a_sign refl (a_sign refl none))) refl;
  at_the_front = is_read _ _ _ (a_sign refl (a_sign refl (a_sign refl (a_sign refl (a_sign refl (a_sign refl none)))))) refl;
  bar = is_read _ _ _ (a_sign refl (a_sign refl (a_sign refl none))) refl;
  group = is_read _ _ _ (a_sign refl (a_sign refl (a_sign refl (a_sign refl (a_sign refl (a_sign refl (a_sign refl (a_sign refl none)))))))) refl;
  empty_group = is_read _ _ _ (a_sign refl (a_sign refl none)) refl;
  area = is_read _ _ _ (an_edge (a_sign refl (an_edge none))) refl;
  start_in_group = is_read _ _ _ (a_sign refl (a_sign refl (an_edge (a_sign refl none)))) refl;
  cut = is_read _ _ _ (a_sign refl (a_sign refl (a_sign refl (an_escape (a_sign refl (a_sign refl none)))))) refl;
  end_after_cut = is_read _ _ _ (an_escape (an_edge (a_sign refl (an_edge none)))) refl;
  ranges = is_read _ _ _ (some_bytes refl (body _ _ _ _ _ _ (range _ _ _ (λ e. absurd (omega (arith, e))) (omega arith)) (more _ _ _ _ _ _ refl (byte _ _ refl) (closed _))) none) refl;
  range_of_one = is_read _ _ _
      (some_bytes refl (body _ _ _ _ _ _ (range _ _ _ (λ e. absurd (omega (arith, e))) (omega arith)) (closed _)) none) refl;
  bracket_first = is_read _ _ _ (some_bytes refl (body _ _ _ _ _ _ (byte _ _ refl) (more _ _ _ _ _ _ refl (byte _ _ refl) (more _ _ _ _ _ _ refl (byte _ _ refl) (closed _)))) none) refl;
  others = is_read _ _ _ (other_bytes (body _ _ _ _ _ _ (byte _ _ refl) (closed _)) none) refl;
  open_parenthesis = λ e r. not_read _ _ (a_sign refl (a_sign refl none)) refl e r;
  stray_parenthesis = λ e r. not_read _ _ (a_sign refl (a_sign refl none)) refl e r;
  second_cut = λ e r. not_read _ _ (an_escape (a_sign refl (an_escape none))) refl e r;
  cut_in_parentheses = λ e r. not_read _ _ (a_sign refl (an_escape (a_sign refl none))) refl e r;
  backslash_alone = λ e r. no_first_token (92 ∷ []) (omega arith) alone e r;
  downward = λ e r. no_first_token (codes "[b-a]") (omega arith) (no_bracket (codes "[b-a]") refl reversed) e r;
  parenthesis_200 = λ s u e is. group 199 s u e (omega arith) is;
  no_more_bytes = λ text e r. r.room;
  as_many_bytes = λ text after tokens e is room cut spelled. record {
    after = after;
    tokens = tokens;
    expands = is;
    room = room;
    cut = cut;
    spelled = spelled;
  };
}
