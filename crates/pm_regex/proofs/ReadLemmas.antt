-- A text is read token by token.
use Rattle.std.proofs.Common.{◌≡◌, ℕ, ◌+◌, ◌<◌, ◌≤◌, List, [], ◌∷◌, length, drop, Some, None, refl, sym, ◌∙◌, subst, ap, arith}
use Rattle.std.proofs.lemmas.List.{drop-drop, drop_all}
use Rattle.pm_regex.specs.declared.reader.Reader.{Reader}
use Rattle.pm_regex.specs.Re.{Whole}
use Rattle.pm_regex.specs.Macros.{Expands}
use Rattle.pm_regex.specs.Tokens.{Token, First, IsTokens, none, next}
use Rattle.pm_regex.specs.Grammar.{IsWhole}
use Rattle.pm_regex.specs.Machine.{State, opening, step, run, finish, finished}
use Rattle.pm_regex.specs.Reader.{ReaderIs, RefusesFirst}
use Rattle.pm_regex.specs.Reading.{Reads, ReadsTokens}
use Rattle.pm_regex.proofs.Complete.{whole_reads, one_reading}
use Rattle.pm_regex.proofs.Sound.{reads_whole, run_none}
use Rattle.pm_regex.proofs.ExpandLemmas.{one_text}
use Rattle.pm_regex.proofs.TokenLemmas.{one_first, none_first}

-- from this state the text leads to the expression
pub record Leads (st : State) (text : List ℕ) (w : Whole) : Type 0 where
  pub tokens : List Token
  pub cut : IsTokens text tokens
  pub ends : finish (run (Some st) tokens) ≡ Some w

-- the first of some tokens
pub record HasFirst (text : List ℕ) (ts : List Token) : Type 0 where
  pub token : Token
  pub rest : List ℕ
  pub others : List Token
  pub are : ts ≡ token ∷ others
  pub first : First text token rest
  pub behind : IsTokens rest others

pub has_first : (text : List ℕ) (ts : List Token) → 0 < length text → IsTokens text ts → HasFirst text ts
has_first text ts some none = absurd (omega (arith, some))
has_first text ts some (next _ rest t us f is) = record { token = t; rest = rest; others = us; are = refl; first = f; behind = is }

-- a text has one list of tokens
pub one_tokens : (text : List ℕ) (ts us : List Token) → IsTokens text ts → IsTokens text us → ts ≡ us
one_tokens text ts us none none = refl
one_tokens text ts us none (next _ rest t vs f is) = absurd (none_first t rest f)
one_tokens text ts us (next _ rest t vs f is) none = absurd (none_first t rest f)
one_tokens text ts us (next _ rest t vs f is) (next _ rest2 t2 ws f2 is2) =
    let one = one_first text t t2 rest rest2 f f2 in
    ap (λ z. z ∷ vs) one.0 ∙ ap (λ z. t2 ∷ z) (one_tokens rest vs ws is (subst (λ z. IsTokens z ws) (sym one.1) is2))

-- up to this place the text is read, which leads to the state
pub record IsParsedTo (text : List ℕ) (place : ℕ) (st : State) : Type 0 where
  pub back : (w : Whole) → Leads st (drop place text) w → Leads opening text w
  pub forth : (w : Whole) → Leads opening text w → Leads st (drop place text) w

pub begin : (text : List ℕ) → IsParsedTo text 0 opening
begin text = record { back = λ w x. x; forth = λ w x. x }

-- one token further
pub parsed_further : (text : List ℕ) (place : ℕ) (st st2 : State) (t : Token) (n : ℕ) → 0 < n → n ≤ length (drop place text) →
    First (drop place text) t (drop n (drop place text)) → step st t ≡ Some st2 → IsParsedTo text place st → IsParsedTo text (place + n) st2
parsed_further text place st st2 t n some within f steps x =
    let rest = drop place text in
    let there = drop-drop n place text in
    record {
      back = λ w l.
          x.back w (record {
            tokens = t ∷ l.tokens;
            cut = next rest (drop n rest) t l.tokens f (subst (λ z. IsTokens z l.tokens) (sym there) l.cut);
            ends = ap (λ z. finish (run z l.tokens)) steps ∙ l.ends;
          });
      forth = λ w l.
          let m = x.forth w l in
          let h = has_first rest m.tokens (omega arith) m.cut in
          let one = one_first rest h.token t h.rest (drop n rest) h.first f in
          record {
            tokens = h.others;
            cut = subst (λ z. IsTokens z h.others) (one.1 ∙ there) h.behind;
            ends = ap (λ z. finish (run z h.others)) (sym (ap (λ z. step st z) one.0 ∙ steps)) ∙ ap (λ z. finish (run (Some st) z)) (sym h.are) ∙ m.ends;
          };
    }

-- where no token can stand, nothing is read
pub refused : (text : List ℕ) (place : ℕ) (r : Reader) (st : State) → 0 < length (drop place text) → RefusesFirst (drop place text) r → ReaderIs r st →
    IsParsedTo text place st → (w : Whole) → ReadsTokens text w → ⊥
refused text place r st some refuses is x w reads =
    let l = x.forth w (record { tokens = reads.tokens; cut = reads.cut; ends = whole_reads reads.tokens w reads.spelled }) in
    let h = has_first (drop place text) l.tokens some l.cut in
    let stops = refuses h.token h.rest h.first st is in
    let e : None ≡ Some w =
    sym (ap finish (run_none h.others)) ∙ ap (λ z. finish (run z h.others)) (sym stops) ∙ ap (λ z. finish (run (Some st) z)) (sym h.are) ∙ l.ends in
    cc

-- at the end of the text
pub ended : (text : List ℕ) (place : ℕ) (st : State) (w : Whole) → length text ≤ place → IsParsedTo text place st → finished st st.outer ≡ Some w → ReadsTokens text w
ended text place st w end x e =
    let l = x.back w (record { tokens = []; cut = subst (λ z. IsTokens z []) (sym (drop_all place text end)) none; ends = e }) in
    record { tokens = l.tokens; cut = l.cut; spelled = reads_whole l.tokens w l.ends }

no_tokens : (ts : List Token) → IsTokens [] ts → ts ≡ []
no_tokens ts none = refl
no_tokens ts (next _ rest t us f is) = absurd (none_first t rest f)

pub not_ended : (text : List ℕ) (place : ℕ) (st : State) → length text ≤ place → IsParsedTo text place st → finished st st.outer ≡ None →
    (w : Whole) → ReadsTokens text w → ⊥
not_ended text place st end x stops w reads =
    let l = x.forth w (record { tokens = reads.tokens; cut = reads.cut; ends = whole_reads reads.tokens w reads.spelled }) in
    let no = no_tokens l.tokens (subst (λ z. IsTokens z l.tokens) (drop_all place text end) l.cut) in
    let e : None ≡ Some w = sym stops ∙ ap (λ z. finish (run (Some st) z)) (sym no) ∙ l.ends in
    cc

-- a text is read as one expression
pub one_reading_of : (text : List ℕ) (e f : Whole) → Reads text e → Reads text f → e ≡ f
one_reading_of text e f x y =
    let same = one_text text x.after y.after x.expands y.expands in
    let tokens = one_tokens y.after x.tokens y.tokens (subst (λ z. IsTokens z x.tokens) same x.cut) y.cut in
    one_reading y.tokens e f (subst (λ z. IsWhole z e) tokens x.spelled) y.spelled

-- the tokens of the text after its macros
pub reads : (text after given : List ℕ) (e : Whole) → given ≡ after → Expands text after → length after ≤ 65536 → ReadsTokens given e → Reads text e
reads text after given e same expands room r =
    record { after = after; tokens = r.tokens; expands = expands; room = room; cut = subst (λ z. IsTokens z r.tokens) same r.cut; spelled = r.spelled }

pub tokens_of : (text after given : List ℕ) (e : Whole) → given ≡ after → Expands text after → Reads text e → ReadsTokens given e
tokens_of text after given e same expands r =
    record { tokens = r.tokens; cut = subst (λ z. IsTokens z r.tokens) (one_text text r.after after r.expands expands ∙ sym same) r.cut; spelled = r.spelled }
